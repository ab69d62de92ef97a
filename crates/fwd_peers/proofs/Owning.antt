-- A connection keeps its id.
use Rattle.std.proofs.Common.{arith, ◌≡◌, Bool, true, false, ℕ, List, refl}
use Rattle.fwd_source.specs.Live.{LiveSource, live_piece_next, source_hears}

-- a piece changes nothing that it was set up with
pub conn_heard : (s : LiveSource) (bytes : List ℕ)
    → (live_piece_next s bytes).setup.conn ≡ s.setup.conn
unfolding source_hears
conn_heard s bytes = by s.closed refl
  where
    by : (b : Bool) → s.closed ≡ b → (live_piece_next s bytes).setup.conn ≡ s.setup.conn
    by true e = grind (arith, e)
    by false e = grind (arith, e)
