-- What a worker remembers of losses, and what it tells of a chunk that a server seems to refuse.
use Rattle.std.specs.Prelude.{ℕ, ◌+◌, min, nat_lt, Bool, true, false, Option, Some, None}
use Rattle.fwd_environment.specs.declared.refused.Refused.{Refused}
use Rattle.fwd_workers.specs.declared.doubts.Doubts.{Doubts}
use Rattle.fwd_workers.specs.declared.ending.EndReason.{EndReason}
use Rattle.fwd_workers.specs.declared.ending.EndReason.TheVariants as ending
use Rattle.fwd_workers.specs.declared.refused.Suspect.{Suspect}

-- what is told of a chunk whose session with a server ended for a loss: this loss counts too
abbrev pub refused_of : Suspect → (server : ℕ) → EndReason → Option Refused
refused_of s server ending.Spent = None
refused_of s server ending.Left = None
refused_of s server (ending.Lost why) = Some (record {
  server = server;
  tag = s.tag;
  size = s.size;
  losses = min (s.losses + 1) 255;
  why = why;
})

-- what is told of a session that ended, of whose chunk there may be something to tell
abbrev pub refused_by : Option Suspect → (server : ℕ) → EndReason → Option Refused
refused_by None server why = None
refused_by (Some s) server why = refused_of s server why

-- a session begins with a server that is tried for its own sake: no server is asked once more, and
-- the session is for no one chunk
abbrev pub doubts_begin : Doubts → Doubts
doubts_begin d = record d { ask = None; is_asking = false; leaves = false; errand = None }

-- the first chunk of a session is loaded: it stays alone if it was lost before
abbrev pub doubts_load : Doubts → (suspect : Option Suspect) → Doubts
doubts_load d suspect = record d { alone = nat_lt 0 d.losses; suspect = suspect }

-- a chunk was settled: its server works, so there is nothing to ask and nothing to suspect
abbrev pub doubts_settle : Doubts → Doubts
doubts_settle d = record d { is_asking = false; suspect = None }

-- the server that is asked once more behind the loss of a chunk there, unless it just was
abbrev pub asks_again : (is_asking : Bool) → (server : ℕ) → Option ℕ
asks_again true server = None
asks_again false server = Some server

-- a session with a server ended with chunks that are lost: the server is asked once more, unless
-- it just was, and what is to be told of a suspect is told once
abbrev pub doubts_lose : Doubts → (server : ℕ) → EndReason → Doubts
doubts_lose d server why = record d {
  ask = asks_again d.is_asking server;
  is_asking = false;
  suspect = None;
  refused = refused_by d.suspect server why;
}
