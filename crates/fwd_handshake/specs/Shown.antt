-- What borrowed messages and salts show.
use Rattle.std.specs.Prelude.{ℕ, List}
use Rattle.std.specs.Option.{option_map}
use Rattle.fwd_msgpack.specs.Values.{bytes_of}
use Rattle.fwd_handshake.specs.declared.ping.Ping.{Ping}
use Rattle.fwd_handshake.specs.declared.ping.Claim.{Claim}
use Rattle.fwd_handshake.specs.declared.pong.Pong.{Pong}
use Rattle.fwd_handshake.specs.declared.helo.Helo.{Helo}
use Rattle.fwd_handshake.specs.declared.salt.Salt.{Salt}
use Rattle.fwd_handshake.specs.Verdicts as said

-- what a claim says
abbrev pub claim_shown : Claim → said.Claim
claim_shown claim = record { username = claim.username.now; digest = claim.digest.now }

-- what a PING says
abbrev pub ping_shown : Ping → said.Ping
ping_shown ping =
    record {
      hostname = ping.hostname.now;
      salt = ping.salt.now;
      digest = ping.digest.now;
      claim = option_map claim_shown ping.claim;
    }

-- what a HELO says
abbrev pub helo_shown : Helo → said.Helo
helo_shown helo = record {
  nonce = helo.nonce.now;
  auth = helo.auth.now;
  keepalive = helo.keepalive;
}

-- a PONG's values, as their bytes
abbrev pub pong_shown : Pong → said.Pong
pong_shown pong =
    record {
      passed = bytes_of pong.passed;
      reason = bytes_of pong.reason;
      host = bytes_of pong.host;
      digest = bytes_of pong.digest;
    }

-- the bytes of a salt
abbrev pub salt_bytes : Salt → List ℕ
salt_bytes salt = salt.bytes.now
