-- What a worker's page knows, from one turn to the next.
use Rattle.std.proofs.Common.{◌≡◌, ◌++◌, ℕ, Bool, true, false, List, [], Option, Some, None, refl, sym, ap, subst, ◌∙◌}
use Rattle.std.proofs.lemmas.List.{append-nil}
use Rattle.std.specs.Prelude.{◌&&◌, not, is_some, map, option_map}
use Rattle.fwd_chunks.specs.History.{CarriedChunk}
use Rattle.fwd_session.specs.History.{first_in}
use Rattle.fwd_session.specs.Live.{LiveSession, live_chunks}
use Rattle.fwd_session.specs.ServerAcks.{Accepted}
use Rattle.fwd_model.specs.declared.event.EndKind.{EndKind}
use Rattle.fwd_model.specs.Live.{lives}
use Rattle.fwd_model.specs.Layers.{Worker}
use Rattle.fwd_model.specs.Step.{lost_server, with_session}
use Rattle.fwd_run.specs.Pages.{WorkerKnown}
use Rattle.fwd_output.specs.Paged.{MayEnd}
use Rattle.fwd_workers.specs.declared.worker.SessionTerms.{SessionTerms}
use Rattle.fwd_workers.specs.Placed.{Becomes, Moves, Stands, with}

-- it has what it had
pub moves-none : (k : WorkerKnown) (s : LiveSession) → Moves k k s s
moves-none k s x has stands =
    ap (λ h. record k { has = h }) (has ∙ ap (λ (t : Option LiveSession). Some (with x.taken t)) stands)

-- where the session is no other, and the page is none
pub moves-same : (k l : WorkerKnown) (s t : LiveSession) → l ≡ k → t ≡ s → Moves k l s t
moves-same k l s t same session =
    subst (λ u. Moves k l s u) (sym session) (subst (λ m. Moves k m s s) (sym same) (moves-none k s))

-- one behind the other
pub moves-then : (k l m : WorkerKnown) (s t u : LiveSession) → Moves k l s t → Moves l m t u → Moves k m s u
moves-then k l m s t u first second x has stands =
    let next = first x has stands in
    second (with_session x t) (ap (λ (n : WorkerKnown). n.has) next) refl ∙ ap (λ (n : WorkerKnown). record n { has = Some (with_session x u) }) next

-- with the chunk that it took and did not load
pub moves-with : (k l : WorkerKnown) (taken : Option CarriedChunk) (s t : LiveSession) → k.has ≡ Some (with taken (Some s)) → Moves k l s t → Becomes k l (with taken (Some t))
moves-with k l taken s t has moves = moves (with taken (Some s)) has refl

-- one behind the other
pub becomes-then : (k l m : WorkerKnown) (x y : Worker LiveSession) → Becomes k l x → Becomes l m y → Becomes k m y
becomes-then k l m x y first second = second ∙ ap (λ (n : WorkerKnown). record n { has = Some y }) first

-- it has what it had
pub becomes-none : (k : WorkerKnown) (x : Worker LiveSession) → k.has ≡ Some x → Becomes k k x
becomes-none k x has = ap (λ h. record k { has = h }) has

and-false : (b : Bool) → (b && false) ≡ false
and-false true = refl
and-false false = refl

-- A worker ends whose session has accepted nothing that is not settled: what it leaves is what it
-- has.
pub may-end : (k : WorkerKnown) (kind : EndKind) (taken left : Option CarriedChunk) (s : LiveSession) (loaded : List CarriedChunk) (server : Option ℕ)
    → k.has ≡ Some (with taken (Some s)) → s.accepted ≡ [] → left ≡ taken → loaded ≡ live_chunks s.carried → server ≡ lost_server lives kind (Some s)
    → MayEnd k k.output kind left loaded server
may-end k kind taken left s loaded server has none took carried loses = record {
  here = refl;
  worker = with taken (Some s);
  has = has;
  some = and-false (not (is_some taken));
  none = ap (λ (a : List Accepted). is_some (first_in a)) none;
  took = took;
  carried = carried;
  whole = carried ∙ (sym (append-nil (live_chunks s.carried)) ∙ ap (λ (a : List Accepted). live_chunks s.carried ++ map (λ x. x.chunk) a) (sym none));
  loses = loses;
}

-- a worker that stands somewhere else is set as it was
pub stands-as : (k l : WorkerKnown) (x y : Worker LiveSession) (terms : SessionTerms) → Stands k x terms → Becomes k l y → Stands l y terms
stands-as k l x y terms own next = record {
  has = ap (λ (n : WorkerKnown). n.has) next;
  config = own.config;
  set = ap (λ (n : WorkerKnown). n.settings) next ∙ own.set;
  login = own.login;
  acks = own.acks;
  servers = own.servers;
}
