use Rattle.std.proofs.Common.{rules, arith, length, ◌≡◌, ℕ, List, [], ◌∷◌, ◌++◌, None, Some, unwrap_or, sym, ap, subst, ◌∙◌, append_assoc}
use Rattle.std.specs.Prelude.{remove}
use Rattle.std.specs.Arc.{arc_value}
use Rattle.fwd_handshake.specs.Shown.{salt_bytes}
use Rattle.fwd_msgpack.specs.declared.stream.Next.TheVariants as next
use Rattle.fwd_msgpack.specs.Values.{bytes_of}
use Rattle.fwd_session.specs.declared.handshake.Handshake.{Handshake}
use Rattle.fwd_session.specs.declared.fault.SessionFault.TheVariants as fault
use Rattle.fwd_session.specs.declared.hearing.Ack.{Ack}
use Rattle.fwd_session.specs.declared.hearing.Hearing.{Hearing}
use Rattle.fwd_session.specs.Said.{Awaited, Word, Said, awaited_behind, sending, acking, word_of, word_then, said_in, reply_stream}
use Rattle.fwd_session.specs.Said.Word.{Skipped, Greets, Acks, Fails}
use Rattle.fwd_session.specs.Flights.{awaited_of}
use Rattle.fwd_session.specs.Hearing.{AreAcksOf, GreetsInSilence, IsAckedAt, IsAckOf, before_others, pending_behind, replies_of, word_in}
use Rattle.fwd_session.proofs.Silence.{sent_in_silence}
use Rattle.fwd_session.proofs.Saying.{said_next, rest_next}
use Rattle.fwd_session.proofs.Judging.{acks_join, acks_push, acks_some, awaited_next, behind_push, shown_end}
use Rattle.fwd_session.proofs.hearing.hear.Goals as goal
use Rattle.fwd_session.proofs.hearing.hear.Goals.{in-Unfinished, in-Fault, in-Value+in_ok-verdict_on-in-Value+in-Fails}

pub returns-in_err-accept-in-Acks-clause-sure : goal.returns-in_err-accept-in-Acks-clause-sure
returns-in_err-accept-in-Acks-clause-sure c done none =
    let login = c.args.peer.now.login.now in
    let salt = salt_bytes c.args.peer.now.salt in
    let at : Handshake = unwrap_or c.values.handshake c.args.before.now in
    let awaited = awaited_of c.values.unacked in
    let value = bytes_of c.in-Value.value in
    let others = λ (g : Handshake) (n : List Awaited). said_in login salt g n (reply_stream c.in-Value.behind.now) in
    let goes : said_in login salt at awaited (reply_stream c.values.rest.now) ≡ word_then at awaited value (word_of login salt at awaited value) others = said_next login salt at awaited c.values.rest.now (next.Value c.in-Value.value c.in-Value.behind) c.in-Value.ensures.split in
    let word : word_of login salt at awaited value ≡ Acks = ap (λ g. word_of login salt g awaited value) (sym c.reached-at.ensures) ∙ sym c.in_ok-verdict_on-in-Value.ensures.word ∙ ap word_in c.in-Acks.is in
    absurd (acks_some (said_in login salt c.args.before.now (awaited_of c.args.unacked) (reply_stream c.args.bytes.now)) c.values.out.items (replies_of c.values.acks.items) (said_in login salt at awaited (reply_stream c.values.rest.now)) (others at (awaited_behind (value ∷ []) awaited)) value c.values.invariant.said (goes ∙ ap (λ (w : Word). word_then at awaited value w others) word) none)

pub returns-in_err-push-in-Acks-clause-sure : goal.returns-in_err-push-in-Acks-clause-sure
returns-in_err-push-in-Acks-clause-sure c done none =
    let login = c.args.peer.now.login.now in
    let salt = salt_bytes c.args.peer.now.salt in
    let at : Handshake = unwrap_or c.values.handshake c.args.before.now in
    let awaited = awaited_of c.values.unacked in
    let value = bytes_of c.in-Value.value in
    let others = λ (g : Handshake) (n : List Awaited). said_in login salt g n (reply_stream c.in-Value.behind.now) in
    let goes : said_in login salt at awaited (reply_stream c.values.rest.now) ≡ word_then at awaited value (word_of login salt at awaited value) others = said_next login salt at awaited c.values.rest.now (next.Value c.in-Value.value c.in-Value.behind) c.in-Value.ensures.split in
    let word : word_of login salt at awaited value ≡ Acks = ap (λ g. word_of login salt g awaited value) (sym c.reached-at.ensures) ∙ sym c.in_ok-verdict_on-in-Value.ensures.word ∙ ap word_in c.in-Acks.is in
    absurd (acks_some (said_in login salt c.args.before.now (awaited_of c.args.unacked) (reply_stream c.args.bytes.now)) c.values.out.items (replies_of c.values.acks.items) (said_in login salt at awaited (reply_stream c.values.rest.now)) (others at (awaited_behind (value ∷ []) awaited)) value c.values.invariant.said (goes ∙ ap (λ (w : Word). word_then at awaited value w others) word) none)

pub returns-in_err-accept-in-Acks-clause-quiet : goal.returns-in_err-accept-in-Acks-clause-quiet
returns-in_err-accept-in-Acks-clause-quiet c asks =
    let login = c.args.peer.now.login.now in
    let salt = salt_bytes c.args.peer.now.salt in
    let at : Handshake = unwrap_or c.values.handshake c.args.before.now in
    let awaited = awaited_of c.values.unacked in
    let value = bytes_of c.in-Value.value in
    let others = λ (g : Handshake) (n : List Awaited). said_in login salt g n (reply_stream c.in-Value.behind.now) in
    let goes : said_in login salt at awaited (reply_stream c.values.rest.now) ≡ word_then at awaited value (word_of login salt at awaited value) others = said_next login salt at awaited c.values.rest.now (next.Value c.in-Value.value c.in-Value.behind) c.in-Value.ensures.split in
    let word : word_of login salt at awaited value ≡ Acks = ap (λ g. word_of login salt g awaited value) (sym c.reached-at.ensures) ∙ sym c.in_ok-verdict_on-in-Value.ensures.word ∙ ap word_in c.in-Acks.is in
    absurd (acks_some (said_in login salt c.args.before.now (awaited_of c.args.unacked) (reply_stream c.args.bytes.now)) c.values.out.items (replies_of c.values.acks.items) (said_in login salt at awaited (reply_stream c.values.rest.now)) (others at (awaited_behind (value ∷ []) awaited)) value c.values.invariant.said (goes ∙ ap (λ (w : Word). word_then at awaited value w others) word) asks.1)

pub returns-in_err-push-in-Acks-clause-quiet : goal.returns-in_err-push-in-Acks-clause-quiet
returns-in_err-push-in-Acks-clause-quiet c asks =
    let login = c.args.peer.now.login.now in
    let salt = salt_bytes c.args.peer.now.salt in
    let at : Handshake = unwrap_or c.values.handshake c.args.before.now in
    let awaited = awaited_of c.values.unacked in
    let value = bytes_of c.in-Value.value in
    let others = λ (g : Handshake) (n : List Awaited). said_in login salt g n (reply_stream c.in-Value.behind.now) in
    let goes : said_in login salt at awaited (reply_stream c.values.rest.now) ≡ word_then at awaited value (word_of login salt at awaited value) others = said_next login salt at awaited c.values.rest.now (next.Value c.in-Value.value c.in-Value.behind) c.in-Value.ensures.split in
    let word : word_of login salt at awaited value ≡ Acks = ap (λ g. word_of login salt g awaited value) (sym c.reached-at.ensures) ∙ sym c.in_ok-verdict_on-in-Value.ensures.word ∙ ap word_in c.in-Acks.is in
    absurd (acks_some (said_in login salt c.args.before.now (awaited_of c.args.unacked) (reply_stream c.args.bytes.now)) c.values.out.items (replies_of c.values.acks.items) (said_in login salt at awaited (reply_stream c.values.rest.now)) (others at (awaited_behind (value ∷ []) awaited)) value c.values.invariant.said (goes ∙ ap (λ (w : Word). word_then at awaited value w others) word) asks.1)

pub returns-in_err-verdict_on-in-Value-clause-quiet :
    goal.returns-in_err-verdict_on-in-Value-clause-quiet
returns-in_err-verdict_on-in-Value-clause-quiet c asks =
    let login = c.args.peer.now.login.now in
    let salt = salt_bytes c.args.peer.now.salt in
    let at : Handshake = unwrap_or c.values.handshake c.args.before.now in
    let awaited = awaited_of c.values.unacked in
    let value = bytes_of c.in-Value.value in
    let others = λ (g : Handshake) (n : List Awaited). said_in login salt g n (reply_stream c.in-Value.behind.now) in
    let goes : said_in login salt at awaited (reply_stream c.values.rest.now) ≡ word_then at awaited value (word_of login salt at awaited value) others = said_next login salt at awaited c.values.rest.now (next.Value c.in-Value.value c.in-Value.behind) c.in-Value.ensures.split in
    let said = said_in login salt c.args.before.now (awaited_of c.args.unacked) (reply_stream c.args.bytes.now) in
    let left = said_in login salt at awaited (reply_stream c.values.rest.now) in
    let quiet : GreetsInSilence (word_of login salt at awaited value) =
    λ ping next is. sent_in_silence said c.values.out.items (replies_of c.values.acks.items) left ping (others next awaited) c.values.invariant.said (goes ∙ ap (λ (w : Word). word_then at awaited value w others) is) asks.0 in
    let no = c.verdict_on.ensures.quiet (subst (λ g. GreetsInSilence (word_of login salt g awaited value)) (sym c.reached-at.ensures) quiet) in
    search rules

pub returns-in_err-extend_from_slice-in-Greets-clause-quiet :
    goal.returns-in_err-extend_from_slice-in-Greets-clause-quiet
returns-in_err-extend_from_slice-in-Greets-clause-quiet c asks =
    let login = c.args.peer.now.login.now in
    let salt = salt_bytes c.args.peer.now.salt in
    let at : Handshake = unwrap_or c.values.handshake c.args.before.now in
    let awaited = awaited_of c.values.unacked in
    let value = bytes_of c.in-Value.value in
    let others = λ (g : Handshake) (n : List Awaited). said_in login salt g n (reply_stream c.in-Value.behind.now) in
    let goes : said_in login salt at awaited (reply_stream c.values.rest.now) ≡ word_then at awaited value (word_of login salt at awaited value) others = said_next login salt at awaited c.values.rest.now (next.Value c.in-Value.value c.in-Value.behind) c.in-Value.ensures.split in
    let said = said_in login salt c.args.before.now (awaited_of c.args.unacked) (reply_stream c.args.bytes.now) in
    let left = said_in login salt at awaited (reply_stream c.values.rest.now) in
    let word : word_of login salt at awaited value ≡ Greets c.in-Greets.ping c.in-Greets.next = ap (λ g. word_of login salt g awaited value) (sym c.reached-at.ensures) ∙ sym c.in_ok-verdict_on-in-Value.ensures.word ∙ ap word_in c.in-Greets.is in
    let none : c.in-Greets.ping ≡ [] = sent_in_silence said c.values.out.items (replies_of c.values.acks.items) left c.in-Greets.ping (others c.in-Greets.next awaited) c.values.invariant.said (goes ∙ ap (λ (w : Word). word_then at awaited value w others) word) asks.0 in
    let same : c.as_slice.result.now ≡ c.in-Greets.ping = search rules in
    let ok = c.extend_from_slice.ensures.succeeds (omega (arith, ap length (same ∙ none), c.values.out.ok)) in
    search rules

pub values-preserved : goal.values-preserved
values-preserved c =
    let login = c.args.peer.now.login.now in
    let salt = salt_bytes c.args.peer.now.salt in
    let at : Handshake = unwrap_or c.values.handshake c.args.before.now in
    let pending = c.values.unacked in
    let awaited = awaited_of pending in
    let acks : List Ack = c.values.acks.items in
    let ack : Ack = c.in_ok-accept-in-Acks.field-0 in
    let out = c.values.out.items in
    let value = bytes_of c.in-Value.value in
    let place = c.in-Acks.place in
    let others = λ (g : Handshake) (n : List Awaited). said_in login salt g n (reply_stream c.in-Value.behind.now) in
    let goes : said_in login salt at awaited (reply_stream c.values.rest.now) ≡ word_then at awaited value (word_of login salt at awaited value) others = said_next login salt at awaited c.values.rest.now (next.Value c.in-Value.value c.in-Value.behind) c.in-Value.ensures.split in
    let word : word_of login salt at awaited value ≡ Acks = ap (λ g. word_of login salt g awaited value) (sym c.reached-at.ensures) ∙ sym c.in_ok-verdict_on-in-Value.ensures.word ∙ ap word_in c.in-Acks.is in
    let points : IsAckedAt pending value place = search rules in
    let left : c.accept.new.unacked ≡ remove pending place = c.accept.ensures.left in
    let behind : awaited_behind (value ∷ []) awaited ≡ awaited_of c.accept.new.unacked = awaited_next pending value place points ∙ ap awaited_of (sym left) in
    let reply : (arc_value ack.acked).reply ≡ value = c.in_ok-accept-in-Acks.ensures.reply ∙ c.bytes-reply.ensures.value in
    let there : ack.place ≡ place = c.in_ok-accept-in-Acks.ensures.place in
    let items : c.push.new.self.items ≡ acks ++ ack ∷ [] = search rules in
    record {
      said = c.values.invariant.said
          ∙ ap (before_others out (replies_of acks)) (goes ∙ ap (λ (w : Word). word_then at awaited value w others) word ∙ ap (λ (n : List Awaited). acking value (others at n)) behind)
          ∙ acks_join out acks ack value (others at (awaited_of c.accept.new.unacked)) reply
          ∙ ap (λ more. before_others out (replies_of more) (others at (awaited_of c.accept.new.unacked))) (sym items);
      acks = subst (AreAcksOf c.args.peer.now.server c.args.unacked) (sym items)
          (acks_push c.args.peer.now.server c.args.unacked acks ack c.values.invariant.acks
          (subst (λ ps. IsAckOf c.args.peer.now.server ps ack) c.values.invariant.left c.in_ok-accept-in-Acks.ensures.ack));
      left = left ∙ (λ i. remove (c.values.invariant.left i) (sym there i))
          ∙ sym (behind_push c.args.unacked acks ack)
          ∙ ap (λ more. pending_behind more c.args.unacked) (sym items);
      rests = c.values.invariant.rests ∙ rest_next c.values.rest.now (next.Value c.in-Value.value c.in-Value.behind) c.in-Value.ensures.split;
      over = c.values.invariant.over;
    }

pub values-preserved-in-Skipped : goal.values-preserved-in-Skipped
values-preserved-in-Skipped c =
    let login = c.args.peer.now.login.now in
    let salt = salt_bytes c.args.peer.now.salt in
    let at : Handshake = unwrap_or c.values.handshake c.args.before.now in
    let awaited = awaited_of c.values.unacked in
    let value = bytes_of c.in-Value.value in
    let what = next.Value c.in-Value.value c.in-Value.behind in
    let others = λ (g : Handshake) (n : List Awaited). said_in login salt g n (reply_stream c.in-Value.behind.now) in
    let goes : said_in login salt at awaited (reply_stream c.values.rest.now) ≡ word_then at awaited value (word_of login salt at awaited value) others = said_next login salt at awaited c.values.rest.now what c.in-Value.ensures.split in
    let word : word_of login salt at awaited value ≡ Skipped = ap (λ g. word_of login salt g awaited value) (sym c.reached-at.ensures) ∙ sym c.in_ok-verdict_on-in-Value.ensures.word ∙ ap word_in c.in-Skipped.is in
    record {
      said = c.values.invariant.said ∙ ap (before_others c.values.out.items (replies_of c.values.acks.items)) (goes ∙ ap (λ (w : Word). word_then at awaited value w others) word);
      acks = c.values.invariant.acks;
      left = c.values.invariant.left;
      rests = c.values.invariant.rests ∙ rest_next c.values.rest.now what c.in-Value.ensures.split;
      over = c.values.invariant.over;
    }

pub values-preserved-in_ok-extend_from_slice-in-Greets :
    goal.values-preserved-in_ok-extend_from_slice-in-Greets
values-preserved-in_ok-extend_from_slice-in-Greets c =
    let login = c.args.peer.now.login.now in
    let salt = salt_bytes c.args.peer.now.salt in
    let at : Handshake = unwrap_or c.values.handshake c.args.before.now in
    let awaited = awaited_of c.values.unacked in
    let replies = replies_of c.values.acks.items in
    let out = c.values.out.items in
    let ping = c.in-Greets.ping in
    let value = bytes_of c.in-Value.value in
    let others = λ (g : Handshake) (n : List Awaited). said_in login salt g n (reply_stream c.in-Value.behind.now) in
    let behind : Said = others c.in-Greets.next awaited in
    let what = next.Value c.in-Value.value c.in-Value.behind in
    let goes : said_in login salt at awaited (reply_stream c.values.rest.now) ≡ word_then at awaited value (word_of login salt at awaited value) others = said_next login salt at awaited c.values.rest.now what c.in-Value.ensures.split in
    let word : word_of login salt at awaited value ≡ Greets ping c.in-Greets.next = ap (λ g. word_of login salt g awaited value) (sym c.reached-at.ensures) ∙ sym c.in_ok-verdict_on-in-Value.ensures.word ∙ ap word_in c.in-Greets.is in
    let items : out ++ ping ≡ c.extend_from_slice.new.self.items = search rules in
    let kept : before_others out replies (sending ping behind) ≡ before_others c.extend_from_slice.new.self.items replies behind =
    λ i. record { handshake = behind.handshake; out = (sym (append_assoc out ping behind.out) ∙ ap (λ (xs : List ℕ). xs ++ behind.out) items) i; replies = replies ++ behind.replies; fault = behind.fault } in
    record {
      said = c.values.invariant.said ∙ ap (before_others out replies) (goes ∙ ap (λ (w : Word). word_then at awaited value w others) word) ∙ kept;
      acks = c.values.invariant.acks;
      left = c.values.invariant.left;
      rests = c.values.invariant.rests ∙ rest_next c.values.rest.now what c.in-Value.ensures.split;
      over = search rules;
    }

pub returns-clause-value : goal.returns-clause-value
returns-clause-value c =
    let login = c.args.peer.now.login.now in
    let salt = salt_bytes c.args.peer.now.salt in
    let before = c.args.before.now in
    let at : Handshake = unwrap_or c.values.handshake before in
    let awaited = awaited_of c.values.unacked in
    let rest = c.values.rest.now in
    let h : Hearing = record { handshake = c.values.handshake; out = c.values.out; acks = c.values.acks; fault = c.match-next_value.fault; rest = c.values.rest } in
    let all : Said = said_in login salt before (awaited_of c.args.unacked) (reply_stream c.args.bytes.now) in
    let left : Said = said_in login salt at awaited (reply_stream rest) in
    elim c.match-next_value.branch [
      | in-Unfinished w ↦
          shown_end before h all left None c.values.invariant.said (said_next login salt at awaited rest next.Unfinished w.in-Unfinished.ensures.split) w.fault-is
      | in-Fault w ↦
          shown_end before h all left (Some fault.BadReply) c.values.invariant.said (said_next login salt at awaited rest (next.Fault w.in-Fault.field-0) w.in-Fault.ensures.split) w.fault-is
      | in-Value+in_ok-verdict_on-in-Value+in-Fails w ↦
          let value = bytes_of w.in-Value.value in
          let others = λ (g : Handshake) (n : List Awaited). said_in login salt g n (reply_stream w.in-Value.behind.now) in
          let goes : left ≡ word_then at awaited value (word_of login salt at awaited value) others = said_next login salt at awaited rest (next.Value w.in-Value.value w.in-Value.behind) w.in-Value.ensures.split in
          let word : word_of login salt at awaited value ≡ Fails w.in-Fails.fault = ap (λ g. word_of login salt g awaited value) (sym w.reached-at.ensures) ∙ sym w.in_ok-verdict_on-in-Value.ensures.word ∙ ap word_in w.in-Fails.is in
          shown_end before h all left (Some w.in-Fails.fault) c.values.invariant.said (goes ∙ ap (λ (x : Word). word_then at awaited value x others) word) w.fault-is
    ]

pub returns-clause-rest : goal.returns-clause-rest
returns-clause-rest c =
    elim c.match-next_value.branch [
      | in-Unfinished w ↦
          let rests = rest_next c.values.rest.now next.Unfinished w.in-Unfinished.ensures.split in
          search rules
      | in-Fault w ↦ search rules
      | in-Value+in_ok-verdict_on-in-Value+in-Fails w ↦ search rules
    ]
