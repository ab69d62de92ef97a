-- A replay against the live part of a history is one against the history.
use Rattle.std.proofs.Common.{◌≡◌, ℕ, List, [], ◌∷◌, Option, Ok, inr, refl, sym, ap, subst, ◌∙◌}
use Rattle.std.specs.List.{flat_map}
use Rattle.std.specs.Io.KnownBytes.{Appends}
use Rattle.fwd_model.specs.declared.event.Event.{Event}
use Rattle.fwd_model.specs.declared.config.Config.{Config}
use Rattle.fwd_model.specs.declared.answer.Answer.{Answer}
use Rattle.fwd_model.specs.Outcome.{answer_of, state_of}
use Rattle.fwd_model.specs.Step as model
use Rattle.fwd_model.specs.Step.{step}
use Rattle.fwd_model.specs.History.{History, opening, histories, IsReached}
use Rattle.fwd_script.specs.Configs.{Configures}
use Rattle.fwd_script.specs.Script.{lines_of, settings_of, event_lines, head_len}
use Rattle.fwd_model.specs.Live.{LiveRelay, live, lives}
use Rattle.fwd_script.specs.Replay.{answer_to, next, events_of, answers, answer_line, output, Ends, Opens, Replays}
use Rattle.fwd_script.specs.Writes.{AppendsFront}
use Rattle.fwd_script.specs.declared.status.Status.{Status}
use Rattle.fwd_script.specs.declared.status.Status.TheVariants.{Done, BadSettings, BadLine, Memory, Input, Output}

-- what the live relay answers to an event, and its state afterwards
abbrev pub live_answer_to : LiveRelay → Event → Answer
live_answer_to r e = answer_of (step lives r e)

abbrev pub live_next : LiveRelay → Event → LiveRelay
live_next r e = state_of r (step lives r e)

pub history_answers : (h : History) (es : List Event)
    → answers answer_to next h es ≡ model.answers histories h es
history_answers h [] = refl
history_answers h (e ∷ es) = ap (λ xs. answer_to h e ∷ xs) (history_answers (next h e) es)

live_answers_same : (r : LiveRelay) (es : List Event)
    → answers live_answer_to live_next r es ≡ model.answers lives r es
live_answers_same r [] = refl
live_answers_same r (e ∷ es) = ap (λ xs. live_answer_to r e ∷ xs) (live_answers_same (live_next r e) es)

module _ (h : History) (r : LiveRelay) (shown : r ≡ live h) (law : (es : List Event) → model.answers histories h es ≡ model.answers lives (live h) es) where
  same_output : (lines : List (List ℕ))
      → output live_answer_to live_next r lines ≡ output answer_to next h lines
  same_output lines =
      let es = events_of lines in
      ap (flat_map answer_line) (live_answers_same r es ∙ ap (λ x. model.answers lives x es) shown ∙ sym (law es) ∙ sym (history_answers h es))

  -- how a run over lines ended
  pub of_history : (status : Status) (count : ℕ) (lines : List (List ℕ)) (old new : Option (List ℕ))
      → Ends status live_answer_to live_next r count lines old new
      → Ends status answer_to next h count lines old new
  of_history Done count lines old new f = (f.0, subst (λ bytes. Appends old new bytes) (same_output lines) f.1)
  of_history (BadLine n) count lines old new f = (f.0, subst (λ bytes. Appends old new bytes) (same_output lines) f.1)
  of_history (BadSettings fault) count lines old new f = f
  of_history Memory count lines old new f =
      record {
        front = f.front;
        line = f.line;
        rest = f.rest;
        parts = f.parts;
        are_events = f.are_events;
        wrote = subst (λ bytes. Appends old new bytes) (same_output f.front) f.wrote;
      }
  of_history (Input failed) count lines old new f = f
  of_history (Output failed) count lines old new f = subst (λ bytes. AppendsFront old new bytes) (same_output lines) f

-- a script that was answered by a relay that its settings opened
pub opened_replays : (script text : List ℕ) (relay : LiveRelay) (status : Status) (count : ℕ)
    (lines : List (List ℕ)) (old new : Option (List ℕ))
    →
    ((config : Config) (h : History) (es : List Event) → IsReached config h
    → model.answers histories h es ≡ model.answers lives (live h) es)
    → Opens text (Ok relay) → text ≡ settings_of script → count ≡ head_len (lines_of script)
    → lines ≡ event_lines (lines_of script)
    → Ends status live_answer_to live_next relay count lines old new → Replays status script old new
opened_replays script text relay status count lines old new law opened same before behind ended =
    by status (subst (λ ls. Ends status answer_to next (opening config) (head_len (lines_of script)) ls old new) behind
    (subst (λ n. Ends status answer_to next (opening config) n lines old new) before
    (of_history (opening config) relay opened.2 (λ es. law config (opening config) es ([], refl)) status count lines old new ended)))
  where
    config : Config
    config = opened.0

    good : Configures (settings_of script) (Ok config)
    good = subst (λ t. Configures t (Ok config)) same opened.1

    by : (status : Status)
        → Ends status answer_to next (opening config) (head_len (lines_of script))
        (event_lines (lines_of script)) old new
        → Replays status script old new
    by Done e = (config, good, e)
    by (BadLine n) e = (config, good, e)
    by (BadSettings fault) e = absurd e
    by Memory e = inr (config, good, e)
    by (Input failed) e = absurd e
    by (Output failed) e = (config, good, e)
