-- What the relay answers over the control socket, by lines without their line feeds.
use Rattle.std.specs.Prelude.{ℕ, ◌==◌, List, [], ◌++◌, codes, if◌then◌else◌}
use Rattle.std.specs.Fmt.{decimal}
use Rattle.fwd_listeners.specs.declared.left.Left.{Left}
use Rattle.fwd_listeners.specs.declared.control_text.ControlAnswer.{ControlAnswer}
use Rattle.fwd_listeners.specs.declared.control_text.ControlAnswer.TheVariants as answers

-- a number, in decimal, between two texts
abbrev pub said : (front : List ℕ) → ℕ → (back : List ℕ) → List ℕ
said front n back = front ++ (decimal n ++ back)

-- how many entries are left, and how many of these nobody sends again
abbrev pub entries_text : (entries unasked : ℕ) → List ℕ
entries_text entries unasked =
    said (codes "left ") entries (codes " entries")
    ++ (codes ", " ++ said [] unasked (codes " of sources that do not ask"))

-- what is left: sources that were not read to the end are named where there are any
abbrev pub left_text : Left → List ℕ
left_text left =
    if left.sources == 0 then entries_text left.entries left.unasked
    else entries_text left.entries left.unasked
    ++ (codes "; " ++ said [] left.sources (codes " sources not read to the end"))

-- the line of each answer
abbrev pub answer_text : ControlAnswer → List ℕ
answer_text (answers.Holds entries sources) =
    said (codes "held ") entries (codes " entries")
    ++ (codes ", " ++ said [] sources (codes " sources"))
answer_text answers.Delivered = codes "all is delivered"
answer_text (answers.Left left) = left_text left
