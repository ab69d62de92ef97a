-- What a connection is accepted with, and what a session and an output begin with.
use Rattle.std.specs.Prelude.{ℕ, List}
use Rattle.fwd_msgpack.specs.declared.limits.Limits.{Limits}
use Rattle.fwd_handshake.specs.declared.credentials.Security.{Security}
use Rattle.fwd_source.specs.History.{Setup}
use Rattle.fwd_chunks.specs.History.{BufferSetting}
use Rattle.fwd_failover.specs.History.{ServersSetting}
use Rattle.fwd_session.specs.History as session
use Rattle.fwd_model.specs.declared.config.OutputConfig.{OutputConfig}

-- what a connection is accepted with
abbrev pub setup_of : Security → Limits → ℕ → (nonce auth : List ℕ) → Setup
setup_of security limits id nonce auth =
    record {
      conn = id;
      security = security;
      nonces = record { nonce = nonce; auth = auth };
      limits = limits;
    }

-- what a session of an output begins with
abbrev pub session_setup : OutputConfig → (server : ℕ) → (salt : List ℕ) → (now : ℕ)
    → session.Setup
session_setup c server salt now =
    record {
      server = server;
      login = c.login;
      salt = salt;
      ack_wait = c.acks.ack_wait;
      window = c.acks.window;
      start = now;
    }

-- what an output's buffer is set to: its limits, and the run and the output's number, which its
-- chunks' names tell
abbrev pub setting_of : List ℕ → ℕ → OutputConfig → BufferSetting
setting_of run o c = record { limits = c.limits; run = run; output = o }

-- what an output's servers are set to: which are standbys, and its buffer's waits
abbrev pub servers_of : OutputConfig → ServersSetting
servers_of c = record {
  standby = c.standby;
  retry_wait = c.limits.retry_wait;
  retry_max = c.limits.retry_max;
}
