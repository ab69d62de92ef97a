-- What it means that a request entered an output.
use Rattle.std.specs.Prelude.{◌≡◌, ℕ, List, ◌∷◌, ◌++◌}
use Rattle.fwd_model.specs.declared.answer.Answer.TheVariants as answer
use Rattle.fwd_model.specs.declared.config.Config.{Config}
use Rattle.fwd_model.specs.declared.event.Event.{Event}
use Rattle.fwd_model.specs.declared.event.Event.TheVariants as event
use Rattle.fwd_model.specs.Delivered.{answered}

-- among the events, a request of the connection was handed to the output at a moment, and the
-- answer was that it entered as the connection's request of number r, with so many entries
pub record HasEntered (config : Config) (es : List Event) (id r o : ℕ) : Type 0 where
  pub before : List Event
  pub moment : ℕ
  pub entries : ℕ
  pub later : List Event
  pub split : es ≡ before ++ event.Admit id o moment ∷ later
  pub entered : answered config before (event.Admit id o moment) ≡ answer.Admitted r entries
