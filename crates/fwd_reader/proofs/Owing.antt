-- What is owed at an output changes, and at no other.
use Rattle.std.proofs.Common.{arith, ◌≡◌, ◌<◌, ◌≤◌, ◌-◌, ℕ, zero, suc, List, [], ◌∷◌, length, get_or, refl, ap, ◌∙◌}
use Rattle.std.specs.Prelude.{map, slice_set}
use Rattle.fwd_run.specs.Runs.{RunEvent}
use Rattle.fwd_reader.specs.declared.admission.source_line.SourceLine.{SourceLine}
use Rattle.fwd_reader.specs.declared.open_tickets.OpenTickets.{OpenTickets}
use Rattle.fwd_reader.specs.Owing.{changed_at}
use Rattle.fwd_reader.specs.Routers.{RouterShown}

-- what is owed in these lines
abbrev pub owed_in : List SourceLine → List ℕ
owed_in lines = map (λ line. line.owed.owed) lines

-- the line at a place became another one
pub line_changed : (lines : List SourceLine) (n : ℕ) (x y : SourceLine) (change : ℕ → ℕ)
    → n < length lines → x ≡ get_or lines n x → y.owed.owed ≡ change x.owed.owed
    → owed_in (slice_set lines n y) ≡ changed_at n change (owed_in lines)
line_changed [] n x y change lt is now = absurd (omega arith)
line_changed (z ∷ zs) zero x y change lt is now =
    ap (λ o. o ∷ owed_in zs) (now ∙ ap (λ l. change l.owed.owed) is)
line_changed (z ∷ zs) (suc n) x y change lt is now =
    ap (λ os. z.owed.owed ∷ os) (line_changed zs n x y change (omega arith) is now)

-- a line in which as much is owed stands at a place
pub line_stays : (lines : List SourceLine) (n : ℕ) (x y : SourceLine) → n < length lines
    → x ≡ get_or lines n x → y.owed ≡ x.owed → owed_in (slice_set lines n y) ≡ owed_in lines
line_stays [] n x y lt is same = absurd (omega arith)
line_stays (z ∷ zs) zero x y lt is same =
    ap (λ o. o ∷ owed_in zs) (ap (λ o. o.owed) same ∙ ap (λ l. l.owed.owed) is)
line_stays (z ∷ zs) (suc n) x y lt is same =
    ap (λ os. z.owed.owed ∷ os) (line_stays zs n x y (omega arith) is same)

-- where no line stands nothing changes
pub no_line : (lines : List SourceLine) (n : ℕ) (change : ℕ → ℕ) → length lines ≤ n
    → owed_in lines ≡ changed_at n change (owed_in lines)
no_line [] n change le = refl
no_line (x ∷ xs) zero change le = absurd (omega arith)
no_line (x ∷ xs) (suc n) change le = ap (λ os. x.owed.owed ∷ os) (no_line xs n change (omega arith))

-- nor where nothing was answered
pub none_answered : (bytes n : ℕ) (owed : List ℕ) → bytes ≡ 0
    → owed ≡ changed_at n (λ o. o - bytes) owed
none_answered bytes n [] none = refl
none_answered bytes zero (x ∷ xs) none =
    let same : x ≡ x - bytes = omega arith in ap (λ o. o ∷ xs) same
none_answered bytes (suc n) (x ∷ xs) none = ap (λ os. x ∷ os) (none_answered bytes n xs none)

-- another amount is owed at an output
pub changes : (routes : List (List (List ℕ))) (stores : List OpenTickets) (n : ℕ)
    (change : ℕ → ℕ) (before after : List ℕ) (reached : List RunEvent) (o : RouterShown)
    → after ≡ changed_at n change before
    → record { routes = routes; stores = stores; owed = before; reached = reached } ≡ o
    → record { routes = routes; stores = stores; owed = after; reached = reached }
    ≡ record o { owed = changed_at n change o.owed }
changes routes stores n change before after reached o changed is =
    (λ i. record { routes = routes; stores = stores; owed = changed i; reached = reached })
    ∙ ap (λ (x : RouterShown). record x { owed = changed_at n change x.owed }) is
