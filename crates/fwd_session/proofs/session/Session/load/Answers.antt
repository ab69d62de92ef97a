use Rattle.std.proofs.Common.{rules, ◌≡◌, ◌+◌, [], ◌∷◌, ◌++◌, true, max, length, arith, sym, ap, subst, ◌∙◌, append_assoc, length-append}
use Rattle.std.specs.List.{concat}
use Rattle.std.specs.Arc.{arc_value}
use Rattle.std.proofs.lemmas.Bool.{false≢true}
use Rattle.fwd_session.specs.ServerAcks.{frame_of}
use Rattle.fwd_session.specs.History.{is_done}
use Rattle.fwd_session.specs.Live.{LiveSession}
use Rattle.fwd_session.specs.Flights.{loaded_of}
use Rattle.fwd_session.proofs.Framing.{free-done}
use Rattle.fwd_session.proofs.Gathering.{concat_push, frame_some, full_push}
use Rattle.fwd_session.proofs.Unsent.{AreFull}
use Rattle.fwd_session.proofs.Carrying.{accepted_length, loaded_length, loaded_push, pairs_length}
use Rattle.fwd_session.proofs.session.Session.load.Goals as goal

-- there is room for one chunk more
pub push-requires : goal.push-requires
push-requires c =
    let s = c.self.inside in
    let carried = ap (λ (v : LiveSession). length v.carried) c.self.view_is in
    let accepted = ap (λ (v : LiveSession). length v.accepted) c.self.view_is in
    let window = ap (λ (v : LiveSession). v.setup.window) c.self.view_is in
    omega (arith, c.requires, carried, accepted, window, loaded_length (length s.greeting) s.frames s.carried, accepted_length (λ p. (arc_value p.0, p.1)) s.accepted.items, c.self.invariant.few)

pub invariant_of-self-2 : goal.invariant_of-self-2
invariant_of-self-2 c =
    let s = c.self.inside in
    let frame = frame_of c.args.chunk in
    let carried = ap (λ (v : LiveSession). length v.carried) c.self.view_is in
    let accepted = ap (λ (v : LiveSession). length v.accepted) c.self.view_is in
    let window = ap (λ (v : LiveSession). v.setup.window) c.self.view_is in
    let frames : c.load.new.self ≡ s.frames ++ frame ∷ [] = search rules in
    let flights : length c.push.new.self ≡ length s.carried + 1 = omega (arith, ap length c.push.ensures, length-append s.carried (record { chunk = c.args.chunk; since = c.max-self-inside.result } ∷ [])) in
    let done : is_done s.handshake ≡ true =
    ap (λ (v : LiveSession). is_done v.handshake) c.self.view_is
    ∙ free-done c.args.self.now.handshake c.args.self.now.down c.args.self.now.has_loaded (sym c.is_ready.ensures ∙ c.if-not-is_ready.false) in
    record {
      backed = c.self.invariant.backed;
      greeted = λ e. absurd (false≢true (sym e ∙ done));
      full = subst AreFull (sym frames) (full_push s.frames frame c.self.invariant.full (frame_some c.args.chunk));
      queued = omega (arith, ap length frames, length-append s.frames (frame ∷ []), flights, c.self.invariant.queued);
      within = omega (arith, c.requires, carried, accepted, window, flights, loaded_length (length s.greeting) s.frames s.carried, accepted_length (λ p. (arc_value p.0, p.1)) s.accepted.items, pairs_length (λ p. (arc_value p.0, p.1)) s.accepted.items);
      few = c.self.invariant.few;
      enough = c.self.invariant.enough;
    }

pub returns-clause-ok : goal.returns-clause-ok
returns-clause-ok c =
    let s = c.self.inside in
    let now = c.args.self.now in
    let frame = frame_of c.args.chunk in
    let frames : c.load.new.self ≡ s.frames ++ frame ∷ [] = search rules in
    let moment : c.max-self-inside.result ≡ max now.moment c.args.now = c.max-self-inside.ensures ∙ ap (λ (v : LiveSession). max v.moment c.args.now) c.self.view_is in
    let waiting : s.greeting ++ concat c.load.new.self ≡ now.waiting ++ frame =
    ap (λ fs. s.greeting ++ concat fs) frames ∙ ap (λ l. s.greeting ++ l) (concat_push s.frames frame) ∙ sym (append_assoc s.greeting (concat s.frames) frame)
    ∙ ap (λ (v : LiveSession). v.waiting ++ frame) c.self.view_is in
    let many : length s.greeting + length (concat s.frames) + length frame ≡ length (now.waiting ++ frame) =
    omega (arith, ap (λ (v : LiveSession). length v.waiting) c.self.view_is, length-append s.greeting (concat s.frames), length-append now.waiting frame) in
    let carried : loaded_of (length s.greeting) c.load.new.self c.push.new.self ≡ now.carried ++ record { chunk = c.args.chunk; left = length (now.waiting ++ frame); since = max now.moment c.args.now } ∷ [] =
    (λ i. loaded_of (length s.greeting) (frames i) (c.push.ensures i))
    ∙ loaded_push (length s.greeting) s.frames frame s.carried (record { chunk = c.args.chunk; since = c.max-self-inside.result }) (length (now.waiting ++ frame)) c.self.invariant.queued many
    ∙ (λ i. (c.self.view_is i).carried ++ record { chunk = c.args.chunk; left = length (now.waiting ++ frame); since = moment i } ∷ []) in
    λ i. record (c.self.view_is i) { waiting = waiting i; carried = carried i; has_loaded = true; moment = moment i }
