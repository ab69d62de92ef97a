use Rattle.std.proofs.Common.{◌≡◌, ℕ, cond, List, [], ◌++◌, length, sym, ap, subst, ◌∙◌}
use Rattle.std.specs.Prelude.{OnOk, ◌==◌}
use Rattle.fwd_session.specs.Hearing.{shown}
use Rattle.fwd_session.specs.Said.{rest_of, reply_stream}
use Rattle.fwd_session.specs.Live.{LiveSession, live_says, session_listens}
use Rattle.fwd_session.proofs.Broken.{broken_faulty, broken_quiet, no_true}
use Rattle.fwd_session.proofs.Taking.{no_bytes, hears-by, taken-room}
use Rattle.fwd_session.proofs.session.Session.heard.Goals as goal

pub returns-then-is_empty-clause-next : goal.returns-then-is_empty-clause-next
returns-then-is_empty-clause-next c =
    let none : c.args.self.now.rest ≡ [] = no_bytes c.args.self.now.rest (ap (λ (xs : List ℕ). length xs == 0) (sym c.rest.ensures) ∙ sym c.is_empty.ensures ∙ c.if-is_empty.true) in
    subst (λ (x : LiveSession). OnOk c.take_in.result (c.take_in.new.self ≡ x))
    (hears-by c.args.self.now c.args.bytes.now c.args.bytes.now c.in_ok-hearing.hearing (sym c.is_down.ensures ∙ c.if-is_down.false) (ap (λ r. r ++ c.args.bytes.now) none) c.in_ok-hearing.ensures.said c.in_ok-hearing.ensures.rest)
    c.take_in.ensures.next

pub returns-then-is_empty-clause-room : goal.returns-then-is_empty-clause-room
returns-then-is_empty-clause-room c =
    taken-room c.take_in.result c.args.self.now c.take_in.new.self (shown c.args.self.now.handshake c.in_ok-hearing.hearing) c.in_ok-hearing.hearing.rest.now c.take_in.ensures.next c.take_in.ensures.err

pub returns-in_err-hearing-clause-broken : goal.returns-in_err-hearing-clause-broken
returns-in_err-hearing-clause-broken c = λ broken.
    let none : c.args.self.now.rest ≡ [] = no_bytes c.args.self.now.rest (ap (λ (xs : List ℕ). length xs == 0) (sym c.rest.ensures) ∙ sym c.is_empty.ensures ∙ c.if-is_empty.true) in
    absurd (no_true (c.in_err-hearing.ensures.quiet
    (broken_quiet c.args.self.now c.args.bytes.now c.args.bytes.now (sym (ap (λ r. r ++ c.args.bytes.now) none)) broken)))

pub returns-then-is_empty-clause-broken : goal.returns-then-is_empty-clause-broken
returns-then-is_empty-clause-broken c = λ broken.
    let none : c.args.self.now.rest ≡ [] = no_bytes c.args.self.now.rest (ap (λ (xs : List ℕ). length xs == 0) (sym c.rest.ensures) ∙ sym c.is_empty.ensures ∙ c.if-is_empty.true) in
    c.take_in.ensures.sure
    (broken_faulty c.args.self.now c.args.bytes.now c.args.bytes.now (sym (ap (λ r. r ++ c.args.bytes.now) none)) broken c.in_ok-hearing.hearing c.in_ok-hearing.ensures.said)

pub returns-clause-room : goal.returns-clause-room
returns-clause-room c =
    let s = c.args.self.now in
    taken-room c.hears_behind.result s c.hears_behind.new.self (live_says s c.args.bytes.now)
    (rest_of (reply_stream (s.rest ++ c.args.bytes.now)))
    (subst (λ (x : LiveSession). OnOk c.hears_behind.result (c.hears_behind.new.self ≡ x))
    (ap (λ b. cond b s (session_listens s c.args.bytes.now)) (sym c.is_down.ensures ∙ c.if-is_down.false))
    c.hears_behind.ensures.next)
    c.hears_behind.ensures.err
