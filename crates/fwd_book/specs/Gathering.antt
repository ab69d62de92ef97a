-- How the code gives receipts: where the origins rise, each stands once.
use Rattle.std.specs.Prelude.{◌==◌, ◌&&◌, ◌||◌, Bool, true, List, [], ◌∷◌, Option, None, Some, nat_lt}
use Rattle.std.specs.List.{flat_map}
use Rattle.fwd_modes.specs.declared.origin.Origin.{Origin}
use Rattle.fwd_session.specs.ServerAcks.{ServerAck}
use Rattle.fwd_book.specs.History.{Entered, request_at}
use Rattle.fwd_book.specs.Receipts.{Receipt, receipt_if}

-- the second origin is of a greater connection, or of the same one with a greater number
abbrev pub is_behind : Origin → Origin → Bool
is_behind a b = nat_lt a.conn b.conn || ((a.conn == b.conn) && nat_lt a.request b.request)

-- the origin is behind that one, if there is one
abbrev pub stands_behind : Option Origin → Origin → Bool
stands_behind None b = true
stands_behind (Some a) b = is_behind a b

-- each of the origins is behind the one before it, the first behind this one
abbrev pub rise_behind : Option Origin → List Origin → Bool
rise_behind before [] = true
rise_behind before (origin ∷ origins) =
    stands_behind before origin && rise_behind (Some origin) origins

-- the receipts of the requests of these origins whose entries are all acknowledged, one origin
-- after the other
abbrev pub receipts_at : List ServerAck → List Entered → List Origin → List Receipt
receipts_at settled qs origins =
    flat_map (λ origin. receipt_if settled (request_at qs origin)) origins
