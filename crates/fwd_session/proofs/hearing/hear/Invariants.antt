use Rattle.std.proofs.Common.{◌≡◌, true, [], None, length}
use Rattle.std.specs.Prelude.{unwrap_or}
use Rattle.fwd_handshake.specs.Shown.{salt_bytes}
use Rattle.fwd_session.specs.Said.{said_in, reply_stream, rest_of}
use Rattle.fwd_session.specs.History.{is_done}
use Rattle.fwd_session.specs.Flights.{awaited_of}
use Rattle.fwd_session.specs.Hearing.{AreAcksOf, before_others, pending_behind, replies_of}
use Rattle.fwd_session.proofs.hearing.hear.Given as goal

-- what was read, and what the rest says, is what all of the bytes say
abbrev pub invariant-values : goal.invariant-values
invariant-values l = record {
  said : said_in l.fn.peer.login.now (salt_bytes l.fn.peer.salt) l.fn.before (awaited_of l.fn.unacked) (reply_stream l.fn.bytes)
      ≡ before_others l.out.items (replies_of l.acks.items)
      (said_in l.fn.peer.login.now (salt_bytes l.fn.peer.salt) (unwrap_or l.handshake l.fn.before) (awaited_of l.unacked) (reply_stream l.rest));
  acks : AreAcksOf l.fn.peer.server l.fn.unacked l.acks.items;
  left : l.unacked ≡ pending_behind l.acks.items l.fn.unacked;
  rests : rest_of (reply_stream l.fn.bytes) ≡ rest_of (reply_stream l.rest);
  over : is_done l.fn.before ≡ true → (l.handshake ≡ None) × (l.out.items ≡ []);
}

abbrev pub decreases-values : goal.decreases-values
decreases-values l = length l.rest
