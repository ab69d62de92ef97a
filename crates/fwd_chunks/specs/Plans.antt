-- How the code plans the way of a request's entries.
use Rattle.std.specs.Prelude.{◌≡◌, take, drop, find, option_map}
use Rattle.fwd_modes.specs.Requests.{Request}
use Rattle.fwd_chunks.specs.declared.plan.Plan.{Plan}
use Rattle.fwd_chunks.specs.Live.{LiveBuffer, is_open_of}
use Rattle.fwd_chunks.specs.Filling.{joining_to, needed}
use Rattle.fwd_chunks.specs.Parts.{entries_in}

-- the plan is that of the request
pub record IsPlan (b : LiveBuffer) (r : Request) (p : Plan) : Type 0 where
  pub joins : p.joins ≡ option_map (λ c. c.number) (find (is_open_of r.tag) b.chunks)
  pub front : entries_in p.front
      ≡ take
      (joining_to b.setting.limits.chunk (find (is_open_of r.tag) b.chunks) r.entries) r.entries
  pub back : entries_in p.back
      ≡ drop
      (joining_to b.setting.limits.chunk (find (is_open_of r.tag) b.chunks) r.entries) r.entries
  pub needs : p.needed ≡ needed b.setting.limits.chunk (entries_in p.back)
