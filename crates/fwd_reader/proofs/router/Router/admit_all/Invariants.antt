use Rattle.std.proofs.Common.{◌≡◌, ◌+◌, List, length}
use Rattle.fwd_modes.specs.Requests.{Request}
use Rattle.fwd_modes.specs.declared.origin.Origin.{Origin}
use Rattle.fwd_reader.specs.Admissions.{AdmitsAll}
use Rattle.fwd_reader.proofs.router.Router.admit_all.Given as goal

-- some were admitted, and so many wait still
abbrev pub invariant-loop : goal.invariant-loop
invariant-loop g l =
    (l.self.routes ≡ l.fn.self.routes)
    × ((asked : List (Origin × Request)) × AdmitsAll asked l.fn.self l.fn.source l.self l.source)
    × (l.counter + length l.source.live.waiting ≡ length l.fn.source.live.waiting)
