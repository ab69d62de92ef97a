use Rattle.std.proofs.Common.{◌≡◌, ℕ, List, length, sym, ap, ◌∙◌}
use Rattle.std.specs.Prelude.{map}
use Rattle.fwd_session.specs.History.{is_first_over}
use Rattle.fwd_session.specs.Flights.{InFlightChunk}
use Rattle.fwd_session.specs.Live.{LiveLoaded, LiveSession}
use Rattle.fwd_session.proofs.Carrying.{loaded_since, over_first, over_none}
use Rattle.fwd_session.proofs.session.Session.is_first_over.Goals as goal

pub returns-in-None : goal.returns-in-None
returns-in-None c =
    let s = c.self.inside in
    let flights : List InFlightChunk = s.carried in
    let now = c.args.self.now in
    let since : List ℕ = map (λ f. f.since) flights in
    let same : since ≡ map (λ (l : LiveLoaded). l.since) now.carried = sym (loaded_since (length s.greeting) s.frames s.carried) ∙ ap (λ (v : LiveSession). map (λ (l : LiveLoaded). l.since) v.carried) c.self.view_is in
    sym (over_none now.setup.ack_wait now.moment since (sym c.oldest.ensures ∙ c.in-None.is)) ∙ ap (is_first_over now.setup.ack_wait now.moment) same

pub returns-in-Some : goal.returns-in-Some
returns-in-Some c =
    let s = c.self.inside in
    let flights : List InFlightChunk = s.carried in
    let now = c.args.self.now in
    let since : List ℕ = map (λ f. f.since) flights in
    let same : since ≡ map (λ (l : LiveLoaded). l.since) now.carried = sym (loaded_since (length s.greeting) s.frames s.carried) ∙ ap (λ (v : LiveSession). map (λ (l : LiveLoaded). l.since) v.carried) c.self.view_is in
    c.is_over.ensures
    ∙ sym (over_first now.setup.ack_wait now.moment since c.in-Some.since (sym c.oldest.ensures ∙ c.in-Some.is))
    ∙ ap (is_first_over now.setup.ack_wait now.moment) same
