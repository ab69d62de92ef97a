-- The chunks that are not acknowledged, and how many bytes wait through the frame of each.
use Rattle.std.proofs.Common.{◌≡◌, ℕ, zero, suc, ◌+◌, ◌-◌, ◌<◌, ◌≤◌, true, false, eqb, ltb, min, List, [], ◌∷◌, ◌++◌, length, Some, None, refl, sym, ap, ◌∙◌, arith, append_assoc, length-append}
use Rattle.std.specs.Prelude.{map, nat_le, remove, replicate, slice_get, slice_index_or}
use Rattle.std.specs.List.{concat, AllByRecursion}
use Rattle.std.proofs.lemmas.Bool.Decides.{nat_tests}
use Rattle.std.proofs.lemmas.Option.{same_Some}
use Rattle.std.proofs.lemmas.List.Edits.{remove-append_left}
use Rattle.std.proofs.Common.{Global}
use Rattle.std.specs.Arc.{arc_value}
use Rattle.std.specs.declared.sync.Arc.{Arc}
use Rattle.fwd_chunks.specs.History.{CarriedChunk}
use Rattle.fwd_session.specs.ServerAcks.{ServerAck, IsBacked}
use Rattle.fwd_session.specs.History.{first_in, is_first_over}
use Rattle.fwd_session.specs.Live.{LiveLoaded, falls_with, live_chunks, sends_through}
use Rattle.fwd_session.specs.Flights.{InFlightChunk, PendingChunk, accepted_of, flights_of, flight_chunks, unsent_after, ends_behind, left_through, with_left, loaded_of, pending_of, pending_at, no_chunk, live_pending}
use Rattle.fwd_session.proofs.Unsent.{AreFull, ends_length, ends_push, ends_some, left_sent, less}

-- ---- chunks beside moments

pub flights_push : (cs : List CarriedChunk) (ts : List ℕ) (c : CarriedChunk) (t : ℕ) → length cs ≡ length ts
    → flights_of (cs ++ c ∷ []) (ts ++ t ∷ [])
    ≡ flights_of cs ts ++ record { chunk = c; since = t } ∷ []
flights_push [] [] c t e = refl
flights_push [] (u ∷ ts) c t e = absurd (omega (arith, e))
flights_push (d ∷ cs) [] c t e = absurd (omega (arith, e))
flights_push (d ∷ cs) (u ∷ ts) c t e = ap (λ fs. record { chunk = d; since = u } ∷ fs) (flights_push cs ts c t (omega (arith, e)))

pub flights_length : (cs : List CarriedChunk) (ts : List ℕ) → length cs ≡ length ts
    → length (flights_of cs ts) ≡ length cs
flights_length [] ts e = refl
flights_length (c ∷ cs) [] e = absurd (omega (arith, e))
flights_length (c ∷ cs) (t ∷ ts) e = ap suc (flights_length cs ts (omega (arith, e)))

pub flights_chunks : (cs : List CarriedChunk) (ts : List ℕ) → length cs ≡ length ts
    → flight_chunks (flights_of cs ts) ≡ cs
flights_chunks [] ts e = refl
flights_chunks (c ∷ cs) [] e = absurd (omega (arith, e))
flights_chunks (c ∷ cs) (t ∷ ts) e = ap (λ ds. c ∷ ds) (flights_chunks cs ts (omega (arith, e)))

pub flights_since : (cs : List CarriedChunk) (ts : List ℕ) → length cs ≡ length ts
    → map (λ f. f.since) (flights_of cs ts) ≡ ts
flights_since [] [] e = refl
flights_since [] (t ∷ ts) e = absurd (omega (arith, e))
flights_since (c ∷ cs) [] e = absurd (omega (arith, e))
flights_since (c ∷ cs) (t ∷ ts) e = ap (λ us. t ∷ us) (flights_since cs ts (omega (arith, e)))

pub flights_remove : (cs : List CarriedChunk) (ts : List ℕ) (place : ℕ) → length cs ≡ length ts
    → flights_of (remove cs place) (remove ts place) ≡ remove (flights_of cs ts) place
flights_remove [] ts zero e = refl
flights_remove [] ts (suc place) e = refl
flights_remove (c ∷ cs) [] place e = absurd (omega (arith, e))
flights_remove (c ∷ cs) (t ∷ ts) zero e = refl
flights_remove (c ∷ cs) (t ∷ ts) (suc place) e = ap (λ fs. record { chunk = c; since = t } ∷ fs) (flights_remove cs ts place (omega (arith, e)))

-- the first moment
pub first_there : (ts : List ℕ) → first_in ts ≡ slice_get ts 0
first_there [] = refl
first_there (t ∷ ts) = refl

-- ---- beside how many bytes wait

pub with_left_push : (fs : List InFlightChunk) (ns : List ℕ) (f : InFlightChunk) (n : ℕ)
    → length ns ≡ length fs
    → with_left (fs ++ f ∷ []) (ns ++ n ∷ [])
    ≡ with_left fs ns ++ record { chunk = f.chunk; left = n; since = f.since } ∷ []
with_left_push [] [] f n e = refl
with_left_push [] (m ∷ ns) f n e = absurd (omega (arith, e))
with_left_push (g ∷ fs) [] f n e = absurd (omega (arith, e))
with_left_push (g ∷ fs) (m ∷ ns) f n e = ap (λ ls. record { chunk = g.chunk; left = m; since = g.since } ∷ ls) (with_left_push fs ns f n (omega (arith, e)))

pub with_left_length : (fs : List InFlightChunk) (ns : List ℕ) → length (with_left fs ns) ≡ length fs
with_left_length [] ns = refl
with_left_length (f ∷ fs) [] = ap suc (with_left_length fs [])
with_left_length (f ∷ fs) (n ∷ ns) = ap suc (with_left_length fs ns)

pub with_left_chunks : (fs : List InFlightChunk) (ns : List ℕ)
    → live_chunks (with_left fs ns) ≡ flight_chunks fs
with_left_chunks [] ns = refl
with_left_chunks (f ∷ fs) [] = ap (λ cs. f.chunk ∷ cs) (with_left_chunks fs [])
with_left_chunks (f ∷ fs) (n ∷ ns) = ap (λ cs. f.chunk ∷ cs) (with_left_chunks fs ns)

pub with_left_since : (fs : List InFlightChunk) (ns : List ℕ)
    → map (λ l. l.since) (with_left fs ns) ≡ map (λ f. f.since) fs
with_left_since [] ns = refl
with_left_since (f ∷ fs) [] = ap (λ ts. f.since ∷ ts) (with_left_since fs [])
with_left_since (f ∷ fs) (n ∷ ns) = ap (λ ts. f.since ∷ ts) (with_left_since fs ns)

with_left_remove : (fs : List InFlightChunk) (ns : List ℕ) (place : ℕ)
    → remove (with_left fs ns) place ≡ with_left (remove fs place) (remove ns place)
with_left_remove [] ns zero = refl
with_left_remove [] ns (suc place) = refl
with_left_remove (f ∷ fs) [] zero = refl
with_left_remove (f ∷ fs) [] (suc place) = ap (λ ls. record { chunk = f.chunk; left = 0; since = f.since } ∷ ls) (with_left_remove fs [] place ∙ ap (with_left (remove fs place)) (nothing place))
  where
    nothing : (place : ℕ) → remove (let none : List ℕ = [] in none) place ≡ []
    nothing zero = refl
    nothing (suc place) = refl
with_left_remove (f ∷ fs) (n ∷ ns) zero = refl
with_left_remove (f ∷ fs) (n ∷ ns) (suc place) = ap (λ ls. record { chunk = f.chunk; left = n; since = f.since } ∷ ls) (with_left_remove fs ns place)

with_left_sent : (count : ℕ) (fs : List InFlightChunk) (ns : List ℕ)
    → map (sends_through count) (with_left fs ns) ≡ with_left fs (less count ns)
with_left_sent count [] ns = refl
with_left_sent count (f ∷ fs) [] =
    let none : 0 - count ≡ 0 = omega arith in
    λ i. record { chunk = f.chunk; left = none i; since = f.since } ∷ with_left_sent count fs [] i
with_left_sent count (f ∷ fs) (n ∷ ns) =
    ap (λ ls. record { chunk = f.chunk; left = n - count; since = f.since } ∷ ls) (with_left_sent count fs ns)

with_left_down : (total : ℕ) (fs : List InFlightChunk) (ns : List ℕ)
    → map (falls_with true) (with_left fs ns) ≡ with_left fs (replicate total 0 ++ [])
with_left_down total [] ns = refl
with_left_down zero (f ∷ fs) [] = ap (λ ls. record { chunk = f.chunk; left = 0; since = f.since } ∷ ls) (with_left_down zero fs [])
with_left_down zero (f ∷ fs) (n ∷ ns) = ap (λ ls. record { chunk = f.chunk; left = 0; since = f.since } ∷ ls) (with_left_down zero fs ns)
with_left_down (suc total) (f ∷ fs) [] = ap (λ ls. record { chunk = f.chunk; left = 0; since = f.since } ∷ ls) (with_left_down total fs [])
with_left_down (suc total) (f ∷ fs) (n ∷ ns) = ap (λ ls. record { chunk = f.chunk; left = 0; since = f.since } ∷ ls) (with_left_down total fs ns)

-- ---- what happens to them

abbrev zeros : ℕ → List ℕ
zeros n = replicate n 0

replicate_length : (n : ℕ) → length (zeros n) ≡ n
replicate_length zero = refl
replicate_length (suc n) = ap suc (replicate_length n)

left_length : (total before : ℕ) (frames : List (List ℕ)) → length frames ≤ total
    → length (left_through total before frames) ≡ total
left_length total before frames le =
    omega (arith, le, length-append (replicate (total - length frames) 0) (ends_behind before frames), replicate_length (total - length frames), ends_length before frames)

pub loaded_length : (before : ℕ) (frames : List (List ℕ)) (fs : List InFlightChunk)
    → length (loaded_of before frames fs) ≡ length fs
loaded_length before frames fs = with_left_length fs (left_through (length fs) before frames)

pub loaded_chunks : (before : ℕ) (frames : List (List ℕ)) (fs : List InFlightChunk)
    → live_chunks (loaded_of before frames fs) ≡ flight_chunks fs
loaded_chunks before frames fs = with_left_chunks fs (left_through (length fs) before frames)

pub loaded_since : (before : ℕ) (frames : List (List ℕ)) (fs : List InFlightChunk)
    → map (λ l. l.since) (loaded_of before frames fs) ≡ map (λ f. f.since) fs
loaded_since before frames fs = with_left_since fs (left_through (length fs) before frames)

-- a chunk is loaded
pub loaded_push : (before : ℕ) (frames : List (List ℕ)) (frame : List ℕ) (fs : List InFlightChunk)
    (f : InFlightChunk) (n : ℕ) → length frames ≤ length fs
    → before + length (concat frames) + length frame ≡ n
    → loaded_of before (frames ++ frame ∷ []) (fs ++ f ∷ [])
    ≡ loaded_of before frames fs ++ record { chunk = f.chunk; left = n; since = f.since } ∷ []
loaded_push before frames frame fs f n le e =
    let many : length (fs ++ f ∷ []) - length (frames ++ frame ∷ []) ≡ length fs - length frames = omega (arith, le, length-append fs (f ∷ []), length-append frames (frame ∷ [])) in
    ap (with_left (fs ++ f ∷ []))
    ((λ i. replicate (many i) 0 ++ ends_push before frames frame i)
    ∙ sym (append_assoc (replicate (length fs - length frames) 0) (ends_behind before frames) ((before + length (concat frames) + length frame) ∷ []))
    ∙ ap (λ m. left_through (length fs) before frames ++ m ∷ []) e)
    ∙ with_left_push fs (left_through (length fs) before frames) f n (left_length (length fs) before frames le)

-- bytes are sent
pub loaded_sent : (count before : ℕ) (frames : List (List ℕ)) (fs : List InFlightChunk)
    → AreFull frames → length frames ≤ length fs
    → map (sends_through count) (loaded_of before frames fs)
    ≡ loaded_of (before - min count before) (unsent_after (count - min count before) frames) fs
loaded_sent count before frames fs full le =
    with_left_sent count fs (left_through (length fs) before frames)
    ∙ ap (with_left fs) (left_sent count (length fs) before frames full le)

-- nothing waits any more
pub loaded_down : (before : ℕ) (frames : List (List ℕ)) (fs : List InFlightChunk)
    → map (falls_with true) (loaded_of before frames fs) ≡ loaded_of 0 [] fs
loaded_down before frames fs = with_left_down (length fs - 0) fs (left_through (length fs) before frames)

zeros_remove : (m place : ℕ) → place < m → remove (zeros m) place ≡ zeros (m - 1)
zeros_remove zero place lt = absurd (omega (arith, lt))
zeros_remove (suc m) zero lt = (let same : m ≡ suc m - 1 = omega arith in ap zeros same)
zeros_remove (suc zero) (suc place) lt = absurd (omega (arith, lt))
zeros_remove (suc (suc m)) (suc place) lt =
    let same : suc (suc m - 1) ≡ suc (suc m) - 1 = omega arith in
    ap (λ ns. 0 ∷ ns) (zeros_remove (suc m) place (omega (arith, lt))) ∙ ap zeros same

remove_length : {A : Type 0} (xs : List A) (place : ℕ) → place < length xs
    → length (remove xs place) ≡ length xs - 1
remove_length [] place lt = absurd (omega (arith, lt))
remove_length (x ∷ xs) zero lt = omega arith
remove_length (x ∷ xs) (suc place) lt = omega (arith, lt, remove_length xs place (omega (arith, lt)))

left_remove : (m n place : ℕ) (ends : List ℕ) → place < m → m - 1 ≡ n
    → remove (zeros m ++ ends) place ≡ zeros n ++ ends
left_remove m n place ends lt e =
    remove-append_left (zeros m) ends place (omega (arith, lt, replicate_length m))
    ∙ ap (λ ns. ns ++ ends) (zeros_remove m place lt ∙ ap zeros e)

-- a chunk whose frame is handed on is acknowledged
pub loaded_remove : (before : ℕ) (frames : List (List ℕ)) (fs : List InFlightChunk) (place : ℕ)
    → place < length fs - length frames
    → remove (loaded_of before frames fs) place ≡ loaded_of before frames (remove fs place)
loaded_remove before frames fs place lt =
    with_left_remove fs (left_through (length fs) before frames) place
    ∙ ap (with_left (remove fs place)) (left_remove (length fs - length frames) (length (remove fs place) - length frames) place (ends_behind before frames) lt (omega (arith, lt, remove_length fs place (omega (arith, lt)))))

-- ---- which are handed on

pub pending_handed : (handed : ℕ) (cs : List CarriedChunk) (place : ℕ) (p : PendingChunk)
    → slice_get (pending_of handed cs) place ≡ Some p → p.is_handed_on ≡ ltb place handed
pending_handed handed [] place p e = absurd cc
pending_handed handed (c ∷ cs) zero p e = ap (λ (q : PendingChunk). q.is_handed_on) (sym (same_Some _ _ e))
pending_handed handed (c ∷ cs) (suc place) p e =
    let same : ltb place (handed - 1) ≡ ltb (suc place) handed = grind (arith, nat_tests) in
    pending_handed (handed - 1) cs place p e ∙ same

pending_zeros : (m : ℕ) (fs : List InFlightChunk) (ns : List ℕ) → m + length ns ≡ length fs
    → AllByRecursion (λ n. 0 < n) ns
    → live_pending (with_left fs (replicate m 0 ++ ns)) ≡ pending_of m (flight_chunks fs)
pending_zeros zero [] ns e some = refl
pending_zeros (suc m) [] ns e some = absurd (omega (arith, e))
pending_zeros zero (f ∷ fs) [] e some = absurd (omega (arith, e))
pending_zeros zero (f ∷ fs) (n ∷ ns) e some =
    let not_yet : eqb n 0 ≡ false = grind (arith, nat_tests, some.0) in
    let none : 0 ≡ 0 - 1 = omega arith in
    λ i. record { chunk = f.chunk; is_handed_on = not_yet i } ∷ (pending_zeros zero fs ns (omega (arith, e)) some.1 ∙ ap (λ h. pending_of h (flight_chunks fs)) none) i
pending_zeros (suc m) (f ∷ fs) ns e some =
    let now : true ≡ ltb 0 (suc m) = grind (arith, nat_tests) in
    let same : m ≡ suc m - 1 = omega arith in
    λ i. record { chunk = f.chunk; is_handed_on = now i } ∷ (pending_zeros m fs ns (omega (arith, e)) some ∙ ap (λ h. pending_of h (flight_chunks fs)) same) i

pub loaded_pending : (before : ℕ) (frames : List (List ℕ)) (fs : List InFlightChunk) → AreFull frames
    → length frames ≤ length fs
    → live_pending (loaded_of before frames fs)
    ≡ pending_of (length fs - length frames) (flight_chunks fs)
loaded_pending before frames fs full le =
    pending_zeros (length fs - length frames) fs (ends_behind before frames) (omega (arith, le, ends_length before frames)) (ends_some before frames full)

-- the one at a place
pub pending_there : (handed : ℕ) (cs : List CarriedChunk) (place : ℕ) → place < length cs
    → slice_get (pending_of handed cs) place ≡ Some (pending_at handed cs place)
pending_there handed [] place lt = absurd (omega (arith, lt))
pending_there handed (c ∷ cs) zero lt = refl
pending_there handed (c ∷ cs) (suc place) lt =
    let same : ltb place (handed - 1) ≡ ltb (suc place) handed = grind (arith, nat_tests) in
    pending_there (handed - 1) cs place (omega (arith, lt)) ∙ (λ i. Some (record { chunk = slice_index_or cs place no_chunk; is_handed_on = same i }))

pub pending_length : (handed : ℕ) (cs : List CarriedChunk) → length (pending_of handed cs) ≡ length cs
pending_length handed [] = refl
pending_length handed (c ∷ cs) = ap suc (pending_length (handed - 1) cs)

-- how many chunks are acknowledged
pub pairs_length : {A : Type 0} (f : A → ServerAck × CarriedChunk) (pairs : List A)
    → length (map f pairs) ≡ length pairs
pairs_length f [] = refl
pairs_length f (p ∷ pairs) = ap suc (pairs_length f pairs)

pub accepted_length : {A : Type 0} (f : A → ServerAck × CarriedChunk) (pairs : List A)
    → length (accepted_of (map f pairs)) ≡ length pairs
accepted_length f [] = refl
accepted_length f (p ∷ pairs) = ap suc (accepted_length f pairs)

-- the wait that began first
pub over_first : (wait now : ℕ) (ts : List ℕ) (t : ℕ) → first_in ts ≡ Some t
    → is_first_over wait now ts ≡ nat_le (t + wait) now
over_first wait now [] t e = absurd cc
over_first wait now (u ∷ ts) t e = ap (λ v. nat_le (v + wait) now) (same_Some _ _ e)

pub over_none : (wait now : ℕ) (ts : List ℕ) → first_in ts ≡ None
    → is_first_over wait now ts ≡ false
over_none wait now [] e = refl
over_none wait now (u ∷ ts) e = absurd cc

-- the frames of those that are handed on are the first
pub handed_place : (before : ℕ) (frames : List (List ℕ)) (fs : List InFlightChunk) (place : ℕ)
    (one : PendingChunk) → AreFull frames → length frames ≤ length fs
    → slice_get (live_pending (loaded_of before frames fs)) place ≡ Some one
    → one.is_handed_on ≡ true → place < length fs - length frames
handed_place before frames fs place one full le there handed =
    let is : slice_get (pending_of (length fs - length frames) (flight_chunks fs)) place ≡ Some one = ap (λ ps. slice_get ps place) (sym (loaded_pending before frames fs full le)) ∙ there in
    let before_end : ltb place (length fs - length frames) ≡ true = sym (pending_handed (length fs - length frames) (flight_chunks fs) place one is) ∙ handed in
    grind (arith, nat_tests, before_end)

-- the chunk at a place, however it is seen
pub pending_chunk : (ls : List LiveLoaded) (place : ℕ) (one : PendingChunk)
    → slice_get (live_pending ls) place ≡ Some one
    → slice_get (live_chunks ls) place ≡ Some one.chunk
pending_chunk [] place one e = absurd cc
pending_chunk (l ∷ ls) zero one e = ap (λ (p : PendingChunk). Some p.chunk) (same_Some _ _ e)
pending_chunk (l ∷ ls) (suc place) one e = pending_chunk ls place one e

pub fewer : {A : Type 0} (xs : List A) (place : ℕ) → place < length xs
    → length (remove xs place) ≡ length xs - 1
fewer xs place lt = remove_length xs place lt

-- one more is acknowledged
pub accepted_push : {A : Type 0} (f : A → ServerAck × CarriedChunk) (pairs : List A) (p : A)
    → accepted_of (map f (pairs ++ p ∷ []))
    ≡ accepted_of (map f pairs) ++ record { chunk = (f p).1; reply = (f p).0.reply } ∷ []
accepted_push f [] p = refl
accepted_push f (q ∷ pairs) p = ap (λ ys. record { chunk = (f q).1; reply = (f q).0.reply } ∷ ys) (accepted_push f pairs p)

-- what is kept of it is of it
pub backed_push : {A : Type 0} (server : ℕ) (f : A → ServerAck × CarriedChunk) (pairs : List A) (p : A)
    → AllByRecursion (λ q. IsBacked server q.0 q.1) (map f pairs)
    → IsBacked server (f p).0 (f p).1
    → AllByRecursion (λ q. IsBacked server q.0 q.1) (map f (pairs ++ p ∷ []))
backed_push server f [] p all one = (one, tt)
backed_push server f (q ∷ pairs) p all one = (all.0, backed_push server f pairs p all.1 one)

-- what is kept of an acknowledged chunk, and the chunk
abbrev pub pair_in : Arc ServerAck Global × CarriedChunk → ServerAck × CarriedChunk
pair_in p = (arc_value p.0, p.1)
