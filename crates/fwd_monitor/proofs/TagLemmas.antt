-- The first tags of all outputs: what the tags of one output take of the room, those behind it lack.
use Rattle.std.proofs.Common.{◌≡◌, ◌∙◌, ℕ, zero, suc, ◌+◌, ◌-◌, ◌<◌, ◌≤◌, ◌≢◌, Bool, true, false, List, [], ◌∷◌, ◌++◌, length, refl, sym, ap, arith}
use Rattle.std.specs.Prelude.{◌==◌, cond, take, drop, map}
use Rattle.std.specs.List.{enumerate_from, flat_map}
use Rattle.std.proofs.lemmas.Bool.Decides.{nat_tests}
use Rattle.std.proofs.lemmas.Grind.{flat_map-append}
use Rattle.std.proofs.lemmas.List.{append-nil, drop-map, drop_all, length-drop, length-map, take-map}
use Rattle.std.proofs.lemmas.List.Folds.{flat_map-map}
use Rattle.std.proofs.lemmas.List.Sums.{sum_by-append, sum_by-cons}
use Rattle.fwd_base.specs.declared.report.Report.{Report}
use Rattle.fwd_base.specs.declared.tag_count.TagCount.{TagCount}
use Rattle.fwd_monitor.specs.declared.limits.TheConstants.{MAX_TAGS}
use Rattle.fwd_monitor.specs.declared.measure.TagMeasure.{TagMeasure}
use Rattle.fwd_monitor.specs.Metrics.{all_tags, left_out_sample, of_output, sample_of, tag_sample, tags_of}
use Rattle.fwd_monitor.specs.Samples.{output_line}

-- the tags of outputs from a number on
abbrev pub numbered : ℕ → List Report → List (ℕ × TagCount)
numbered n rs = flat_map tags_of (enumerate_from n rs)

-- the samples of outputs' tags where there is room for so many
abbrev pub tag_samples : TagMeasure → (room : ℕ) → List (ℕ × Report) → List ℕ
tag_samples measure room [] = []
tag_samples measure room ((output, r) ∷ more) =
    flat_map (tag_sample measure output) (take room r.tags)
    ++ tag_samples measure (room - length r.tags) more

-- how many tags of each output have no room
abbrev pub left_out_samples : (name : List ℕ) → (room : ℕ) → List (ℕ × Report) → List ℕ
left_out_samples name room [] = []
left_out_samples name room ((output, r) ∷ more) =
    output_line name output (length r.tags - room)
    ++ left_out_samples name (room - length r.tags) more

-- the first items of two lists in a row
take_seam : {A : Type 0} (n : ℕ) (xs ys : List A) → take n (xs ++ ys) ≡ take n xs ++ take (n - length xs) ys
take_seam zero [] ys = refl
take_seam (suc n) [] ys =
    let e : suc n ≡ suc n - 0 = omega arith in
    ap (λ (k : ℕ). take k ys) e
take_seam zero (x ∷ xs) ys =
    let e : 0 - length (x ∷ xs) ≡ 0 = omega arith in
    ap (λ (k : ℕ). take k ys) (sym e)
take_seam {A} (suc n) (x ∷ xs) ys =
    let e : suc n - length (x ∷ xs) ≡ n - length xs = omega arith in
    ap (λ (l : List A). x ∷ l) (take_seam n xs ys ∙ ap (λ (k : ℕ). take n xs ++ take k ys) (sym e))

-- what is behind the first items of two lists in a row
drop_seam : {A : Type 0} (n : ℕ) (xs ys : List A) → drop n (xs ++ ys) ≡ drop n xs ++ drop (n - length xs) ys
drop_seam zero [] ys = refl
drop_seam (suc n) [] ys =
    let e : suc n ≡ suc n - 0 = omega arith in
    ap (λ (k : ℕ). drop k ys) e
drop_seam zero (x ∷ xs) ys =
    let e : 0 - length (x ∷ xs) ≡ 0 = omega arith in
    ap (λ (k : ℕ). x ∷ xs ++ drop k ys) (sym e)
drop_seam (suc n) (x ∷ xs) ys =
    let e : suc n - length (x ∷ xs) ≡ n - length xs = omega arith in
    drop_seam n xs ys ∙ ap (λ (k : ℕ). drop n xs ++ drop k ys) (sym e)

-- the front's samples are those that have room
shown : (measure : TagMeasure) (room n : ℕ) (rs : List Report)
    → flat_map (sample_of measure) (take room (numbered n rs))
    ≡ tag_samples measure room (enumerate_from n rs)
shown measure zero n [] = refl
shown measure (suc room) n [] = refl
shown measure room n (r ∷ rs) =
    let g = sample_of measure in
    let own = map (λ (t : TagCount). (n, t)) r.tags in
    let less : room - length own ≡ room - length r.tags = ap (λ (k : ℕ). room - k) (length-map r.tags (λ (t : TagCount). (n, t))) in
    let first : flat_map g (take room own) ≡ flat_map (tag_sample measure n) (take room r.tags) =
    ap (flat_map g) (take-map (λ (t : TagCount). (n, t)) room r.tags)
    ∙ flat_map-map g (λ (t : TagCount). (n, t)) (take room r.tags) in
    let rest : flat_map g (take (room - length own) (numbered (n + 1) rs)) ≡ tag_samples measure (room - length r.tags) (enumerate_from (n + 1) rs) =
    ap (λ (k : ℕ). flat_map g (take k (numbered (n + 1) rs))) less ∙ shown measure (room - length r.tags) (n + 1) rs in
    ap (flat_map g) (take_seam room own (numbered (n + 1) rs))
    ∙ flat_map-append g (take room own) (take (room - length own) (numbered (n + 1) rs))
    ∙ ap (λ (l : List ℕ). l ++ flat_map g (take (room - length own) (numbered (n + 1) rs))) first
    ∙ ap (λ (l : List ℕ). flat_map (tag_sample measure n) (take room r.tags) ++ l) rest

-- ---- those behind it

-- of two lists in a row
of_both : (k : ℕ) (xs ys : List (ℕ × TagCount)) → of_output k (xs ++ ys) ≡ of_output k xs + of_output k ys
of_both k xs ys = sum_by-append (λ (t : ℕ × TagCount). cond (t.0 == k) 1 0) xs ys

-- tags of one output are all of it
of_own : (n : ℕ) (ts : List TagCount) → of_output n (map (λ (t : TagCount). (n, t)) ts) ≡ length ts
of_own n [] = refl
of_own n (t ∷ ts) =
    let is : (n == n) ≡ true = grind (arith, nat_tests) in
    sum_by-cons (λ (u : ℕ × TagCount). cond (u.0 == n) 1 0) (n, t) (map (λ (u : TagCount). (n, u)) ts)
    ∙ ap (λ (b : Bool). cond b 1 0 + of_output n (map (λ (u : TagCount). (n, u)) ts)) is
    ∙ ap (λ (c : ℕ). 1 + c) (of_own n ts) ∙ omega arith

-- and none of another
of_other : (k n : ℕ) (ts : List TagCount) → n ≢ k → of_output k (map (λ (t : TagCount). (n, t)) ts) ≡ 0
of_other k n [] differ = refl
of_other k n (t ∷ ts) differ =
    let is : (n == k) ≡ false = grind (arith, nat_tests, differ) in
    sum_by-cons (λ (u : ℕ × TagCount). cond (u.0 == k) 1 0) (n, t) (map (λ (u : TagCount). (n, u)) ts)
    ∙ ap (λ (b : Bool). cond b 1 0 + of_output k (map (λ (u : TagCount). (n, u)) ts)) is
    ∙ ap (λ (c : ℕ). 0 + c) (of_other k n ts differ)

-- of an output before all of these there is none
of_none : (k room n : ℕ) (rs : List Report) → k < n
    → of_output k (drop room (numbered n rs)) ≡ 0
of_none k zero n [] less = refl
of_none k (suc room) n [] less = refl
of_none k room n (r ∷ rs) less =
    let own = map (λ (t : TagCount). (n, t)) r.tags in
    let rest = numbered (n + 1) rs in
    let front : of_output k (drop room own) ≡ 0 =
    ap (of_output k) (drop-map (λ (t : TagCount). (n, t)) room r.tags) ∙ of_other k n (drop room r.tags) (λ e. omega (arith, less, e)) in
    let back : of_output k (drop (room - length own) rest) ≡ 0 =
    of_none k (room - length own) (n + 1) rs (omega (arith, less)) in
    let both : of_output k (drop room own ++ drop (room - length own) rest) ≡ of_output k (drop room own) + of_output k (drop (room - length own) rest) =
    of_both k (drop room own) (drop (room - length own) rest) in
    let sum : of_output k (drop room own) + of_output k (drop (room - length own) rest) ≡ 0 = omega (arith, front, back) in
    ap (of_output k) (drop_seam room own rest) ∙ both ∙ sum

-- two texts of outputs from a number on are one where they are of each
same_text : (f g : ℕ × Report → List ℕ) (n : ℕ) (rs : List Report)
    → ((k : ℕ) (r : Report) → n ≤ k → f (k, r) ≡ g (k, r))
    → flat_map f (enumerate_from n rs) ≡ flat_map g (enumerate_from n rs)
same_text f g n [] h = refl
same_text f g n (r ∷ rs) h =
    ap (λ (l : List ℕ). l ++ flat_map f (enumerate_from (n + 1) rs)) (h n r (omega arith))
    ∙ ap (λ (l : List ℕ). g (n, r) ++ l) (same_text f g (n + 1) rs (λ k s le. h k s (omega (arith, le))))

-- behind an output's own tags, those of a later one are where they are without it
of_later : (k room n : ℕ) (r : Report) (rs : List Report) → n < k
    → of_output k (drop room (numbered n (r ∷ rs)))
    ≡ of_output k (drop (room - length r.tags) (numbered (n + 1) rs))
of_later k room n r rs less =
    let own = map (λ (t : TagCount). (n, t)) r.tags in
    let rest = numbered (n + 1) rs in
    let same : room - length own ≡ room - length r.tags = ap (λ (j : ℕ). room - j) (length-map r.tags (λ (t : TagCount). (n, t))) in
    let front : of_output k (drop room own) ≡ 0 =
    ap (of_output k) (drop-map (λ (t : TagCount). (n, t)) room r.tags) ∙ of_other k n (drop room r.tags) (λ e. omega (arith, less, e)) in
    let both : of_output k (drop room own ++ drop (room - length own) rest) ≡ of_output k (drop room own) + of_output k (drop (room - length own) rest) =
    of_both k (drop room own) (drop (room - length own) rest) in
    let sum : of_output k (drop room own) + of_output k (drop (room - length own) rest) ≡ of_output k (drop (room - length own) rest) = omega (arith, front) in
    ap (of_output k) (drop_seam room own rest) ∙ both ∙ sum
    ∙ ap (λ (j : ℕ). of_output k (drop j rest)) same

-- an output's own behind the room
of_first : (room n : ℕ) (r : Report) (rs : List Report)
    → of_output n (drop room (numbered n (r ∷ rs))) ≡ length r.tags - room
of_first room n r rs =
    let own = map (λ (t : TagCount). (n, t)) r.tags in
    let rest = numbered (n + 1) rs in
    let front : of_output n (drop room own) ≡ length r.tags - room =
    ap (of_output n) (drop-map (λ (t : TagCount). (n, t)) room r.tags) ∙ of_own n (drop room r.tags)
    ∙ length-drop room r.tags in
    let back : of_output n (drop (room - length own) rest) ≡ 0 =
    of_none n (room - length own) (n + 1) rs (omega arith) in
    let both : of_output n (drop room own ++ drop (room - length own) rest) ≡ of_output n (drop room own) + of_output n (drop (room - length own) rest) =
    of_both n (drop room own) (drop (room - length own) rest) in
    let sum : of_output n (drop room own) + of_output n (drop (room - length own) rest) ≡ length r.tags - room = omega (arith, front, back) in
    ap (of_output n) (drop_seam room own rest) ∙ both ∙ sum

-- what the first tags leave out of each output is what has no room
left : (name : List ℕ) (room n : ℕ) (rs : List Report)
    → flat_map (left_out_sample name (drop room (numbered n rs))) (enumerate_from n rs)
    ≡ left_out_samples name room (enumerate_from n rs)
left name room n [] = refl
left name room n (r ∷ rs) =
    let less = room - length r.tags in
    let later = left_out_sample name (drop room (numbered n (r ∷ rs))) in
    let alone = left_out_sample name (drop less (numbered (n + 1) rs)) in
    let rest : flat_map later (enumerate_from (n + 1) rs) ≡ flat_map alone (enumerate_from (n + 1) rs) =
    same_text later alone (n + 1) rs (λ k s le. ap (output_line name k) (of_later k room n r rs (omega (arith, le)))) in
    ap (λ (c : ℕ). output_line name n c ++ flat_map later (enumerate_from (n + 1) rs)) (of_first room n r rs)
    ∙ ap (λ (l : List ℕ). output_line name n (length r.tags - room) ++ l) (rest ∙ left name less (n + 1) rs)

-- ---- of all outputs

-- the samples of the first tags
pub shown_all : (measure : TagMeasure) (reports : List Report)
    → tag_samples measure MAX_TAGS (enumerate_from 0 reports)
    ≡ flat_map (sample_of measure) (take MAX_TAGS (all_tags reports))
shown_all measure reports = sym (shown measure MAX_TAGS 0 reports)

-- how many of each output's tags are not among them
pub left_all : (name : List ℕ) (reports : List Report)
    → left_out_samples name MAX_TAGS (enumerate_from 0 reports)
    ≡ flat_map (left_out_sample name (drop MAX_TAGS (all_tags reports))) (enumerate_from 0 reports)
left_all name reports = sym (left name MAX_TAGS 0 reports)

-- ---- behind the last output

-- what was to be added there is nothing
pub at_end : {T : Type 0} (f : List (ℕ × T) → List ℕ) (text all : List ℕ) (n : ℕ) (rs : List T)
    → f [] ≡ [] → length rs ≤ n → text ++ f (enumerate_from n (drop n rs)) ≡ all → text ≡ all
at_end {T} f text all n rs none end is =
    sym (append-nil text)
    ∙ ap (λ (l : List ℕ). text ++ l) (sym (ap (λ (l : List T). f (enumerate_from n l)) (drop_all n rs end) ∙ none))
    ∙ is
