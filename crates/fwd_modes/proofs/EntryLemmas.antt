-- Entries one after the other, and where they end.
use Rattle.std.proofs.Common.{◌≡◌, ℕ, suc, ◌+◌, ◌-◌, ◌<◌, Bool, true, false, cond, List, [], ◌∷◌, ◌++◌, length, take, drop, Option, Some, None, refl, sym, ap, subst, ◌∙◌, append_assoc, arith}
use Rattle.std.specs.Prelude.{option_and_then, ◌&&◌}
use Rattle.std.specs.List.{concat}
use Rattle.std.specs.Option.{option_map}
use Rattle.std.proofs.lemmas.List.{append-nil, length-append, take_at, drop_at}
use Rattle.fwd_msgpack.specs.declared.fault.ScanFault.{ScanFault}
use Rattle.fwd_msgpack.specs.Scans.{Verdict, Whole, Short, Bad, Split, Open, Broken, first_of, split_of, with_front, most_bytes}
use Rattle.fwd_msgpack.proofs.Rows.{by_first, told_first, split_first}
use Rattle.std.proofs.lemmas.Option.{same_Some}
use Rattle.fwd_modes.specs.Kinds.{is_map}
use Rattle.fwd_modes.specs.Times.{is_time}
use Rattle.fwd_msgpack.specs.Scans.{elements_of}
use Rattle.fwd_modes.specs.Entries.{AreFull, kept_entry, entry_in, entry_of, before, entries_of, values_to_the_end, packed_entries, ends_from, cut_at, AreCut}

-- entries in front of others
abbrev pub behind : List (List ℕ) → Option (List (List ℕ)) → Option (List (List ℕ))
behind front others = option_map (λ entries. front ++ entries) others

pub behind-more : (front : List (List ℕ)) (entry : List ℕ) (others : Option (List (List ℕ)))
    → behind (front ++ entry ∷ []) others ≡ behind front (before (Some entry) others)
behind-more front entry None = refl
behind-more front entry (Some entries) = ap Some (append_assoc front (entry ∷ []) entries)

pub behind-nothing : (others : Option (List (List ℕ))) → behind [] others ≡ others
behind-nothing None = refl
behind-nothing (Some entries) = refl

pub behind-end : (front : List (List ℕ)) → behind front (Some []) ≡ Some front
behind-end front = ap Some (append-nil front)

pub before-none : (others : Option (List (List ℕ))) → before None others ≡ None
before-none others = refl

-- ---- ends

pub length-concat-push : (xs : List (List ℕ)) (x : List ℕ)
    → length (concat (xs ++ x ∷ [])) ≡ length (concat xs) + length x
length-concat-push [] x = omega (arith, length-append x [])
length-concat-push (y ∷ xs) x = omega (arith, length-append y (concat (xs ++ x ∷ [])), length-append y (concat xs), length-concat-push xs x)

concat-push : (xs : List (List ℕ)) (x : List ℕ) → concat (xs ++ x ∷ []) ≡ concat xs ++ x
concat-push [] x = append-nil x
concat-push (y ∷ xs) x = ap (λ zs. y ++ zs) (concat-push xs x) ∙ sym (append_assoc y (concat xs) x)

pub length_ends : (place : ℕ) (entries : List (List ℕ))
    → length (ends_from place entries) ≡ length entries
length_ends place [] = refl
length_ends place (e ∷ entries) = ap suc (length_ends (place + length e) entries)

-- what is joined and cut at its own ends is what it was
pub cut_joined : (place : ℕ) (entries : List (List ℕ))
    → cut_at place (ends_from place entries) (concat entries) ≡ entries
cut_joined place [] = refl
cut_joined place (e ∷ entries) =
    let long : (place + length e) - place ≡ length e = omega arith in
    rw (long, take_at e (concat entries) (length e) refl, drop_at e (concat entries) (length e) refl) (ap (λ es. e ∷ es) (cut_joined (place + length e) entries))

-- entries with the same bytes and the same ends are the same
pub same_entries : (left right : List (List ℕ)) → concat left ≡ concat right
    → ends_from 0 left ≡ ends_from 0 right → left ≡ right
same_entries left right bytes ends =
    sym (cut_joined 0 left) ∙ ap (λ ns. cut_at 0 ns (concat left)) ends
    ∙ ap (cut_at 0 (ends_from 0 right)) bytes ∙ cut_joined 0 right

-- entries one after the other are cut at their ends
pub cut_whole : (entries : List (List ℕ)) → AreCut 0 (ends_from 0 entries) (concat entries)
cut_whole entries = record { joined = ap concat (cut_joined 0 entries); ending = ap (ends_from 0) (cut_joined 0 entries) }

ends_push : (place : ℕ) (entries : List (List ℕ)) (e : List ℕ)
    → ends_from place (entries ++ e ∷ [])
    ≡ ends_from place entries ++ (place + length (concat entries) + length e) ∷ []
ends_push place [] e = ap (λ n. n ∷ []) (omega arith)
ends_push place (x ∷ entries) e =
    let whole : length (concat (x ∷ entries)) ≡ length x + length (concat entries) = length-append x (concat entries) in
    let last : place + length x + length (concat entries) + length e ≡ place + length (concat (x ∷ entries)) + length e = omega arith in
    ap (λ ns. (place + length x) ∷ ns) (ends_push (place + length x) entries e ∙ ap (λ n. ends_from (place + length x) entries ++ n ∷ []) last)

-- one entry more, and its end
pub cut_push : (ends bytes e : List ℕ) → AreCut 0 ends bytes
    → cut_at 0 (ends ++ (length bytes + length e) ∷ []) (bytes ++ e)
    ≡ cut_at 0 ends bytes ++ e ∷ []
cut_push ends bytes e cut =
    let entries = cut_at 0 ends bytes in
    let last : length (concat entries) ≡ length bytes = ap length cut.joined in
    let all : ends_from 0 (entries ++ e ∷ []) ≡ ends ++ (length bytes + length e) ∷ [] =
    ends_push 0 entries e ∙ ap (λ n. ends_from 0 entries ++ n ∷ []) (omega (arith, last)) ∙ ap (λ es. es ++ (length bytes + length e) ∷ []) cut.ending in
    ap (λ ns. cut_at 0 ns (bytes ++ e)) (sym all) ∙ ap (λ bs. cut_at 0 (ends_from 0 (entries ++ e ∷ [])) (bs ++ e)) (sym cut.joined)
    ∙ ap (λ bs. cut_at 0 (ends_from 0 (entries ++ e ∷ [])) bs) (sym (concat-push entries e)) ∙ cut_joined 0 (entries ++ e ∷ [])

pub AreCut-push : (ends bytes e : List ℕ) → AreCut 0 ends bytes
    → AreCut 0 (ends ++ (length bytes + length e) ∷ []) (bytes ++ e)
AreCut-push ends bytes e cut =
    let entries = cut_at 0 ends bytes in
    let last : length (concat entries) ≡ length bytes = ap length cut.joined in
    let more = cut_push ends bytes e cut in
    record {
      joined = ap concat more ∙ concat-push entries e ∙ ap (λ bs. bs ++ e) cut.joined;
      ending = ap (ends_from 0) more ∙ ends_push 0 entries e ∙ ap (λ n. ends_from 0 entries ++ n ∷ []) (omega (arith, last)) ∙ ap (λ es. es ++ (length bytes + length e) ∷ []) cut.ending;
    }

-- ---- each has a byte

-- one entry more, which has one
pub full_push : (entries : List (List ℕ)) (e : List ℕ) → AreFull entries → 0 < length e
    → AreFull (entries ++ e ∷ [])
full_push [] e full some = (some, tt)
full_push (x ∷ entries) e full some = (full.0, full_push entries e full.1 some)

full_if : (time fields entry : List ℕ) (b : Bool)
    → cond b (Some (kept_entry time fields)) None ≡ Some entry → 0 < length entry
full_if time fields entry true e = omega (arith, ap length (same_Some (kept_entry time fields) entry e))
full_if time fields entry false e = absurd cc

full_in : (values : List (List ℕ)) (entry : List ℕ) → entry_in values ≡ Some entry
    → 0 < length entry
full_in [] entry e = absurd cc
full_in (time ∷ []) entry e = absurd cc
full_in (time ∷ fields ∷ []) entry e = full_if time fields entry (is_time time && is_map fields) e
full_in (time ∷ fields ∷ other ∷ others) entry e = absurd cc

full_by : (o : Option (List (List ℕ))) (entry : List ℕ) → option_and_then entry_in o ≡ Some entry
    → 0 < length entry
full_by None entry e = absurd cc
full_by (Some values) entry e = full_in values entry e

full_entry : (bytes entry : List ℕ) → entry_of bytes ≡ Some entry → 0 < length entry
unfolding entry_of
full_entry bytes entry e = full_by (elements_of bytes) entry e

-- entries that were read have one
pub full_entries : (values entries : List (List ℕ)) → entries_of values ≡ Some entries
    → AreFull entries
full_entries [] entries e = subst AreFull (same_Some [] entries e) tt
full_entries (value ∷ values) entries e =
    by_first (entry_of value) refl (entries_of values) refl (λ others k. full_entries values others k) e
  where
    by_first : (o : Option (List ℕ)) → entry_of value ≡ o → (p : Option (List (List ℕ)))
        → entries_of values ≡ p
        → ((others : List (List ℕ)) → entries_of values ≡ Some others → AreFull others)
        → before o p ≡ Some entries → AreFull entries
    by_first None h p k ih f = absurd cc
    by_first (Some entry) h None k ih f = absurd cc
    by_first (Some entry) h (Some others) k ih f =
        subst AreFull (same_Some (entry ∷ others) entries f) (full_entry value entry h, ih others k)

full_packed_by : (o : Option (List (List ℕ))) (entries : List (List ℕ))
    → option_and_then entries_of o ≡ Some entries → AreFull entries
full_packed_by None entries e = absurd cc
full_packed_by (Some values) entries e = full_entries values entries e

pub full_packed : (deep : ℕ) (packed : List ℕ) (entries : List (List ℕ))
    → packed_entries deep packed ≡ Some entries → AreFull entries
unfolding packed_entries
full_packed deep packed entries e = full_packed_by (values_to_the_end (split_of most_bytes deep packed)) entries e

pub take_front : (xs ys : List ℕ) → take (length xs) (xs ++ ys) ≡ xs
take_front xs ys = take_at xs ys (length xs) refl

-- ---- packed entries

-- the values of a row by what it begins with
abbrev packed_by : (deep : ℕ) → List ℕ → Verdict → Option (List (List ℕ))
packed_by deep bytes (Whole n) =
    before (entry_of (take n bytes)) (packed_entries deep (drop n bytes))
packed_by deep bytes Short = None
packed_by deep bytes (Bad fault) = None

to_the_end-front : (value : List ℕ) (split : Split)
    → option_and_then entries_of (values_to_the_end (with_front (value ∷ []) split))
    ≡ before (entry_of value) (option_and_then entries_of (values_to_the_end split))
to_the_end-front value (Open values []) = refl
to_the_end-front value (Open values (b ∷ rest)) = by_entry (entry_of value)
  where
    by_entry : (o : Option (List ℕ)) → None ≡ before o None
    by_entry None = refl
    by_entry (Some e) = refl
to_the_end-front value (Broken values fault) = by_entry (entry_of value)
  where
    by_entry : (o : Option (List ℕ)) → None ≡ before o None
    by_entry None = refl
    by_entry (Some e) = refl

split_short : (deep : ℕ) (bytes : List ℕ) → first_of most_bytes deep bytes ≡ Short
    → split_of most_bytes deep bytes ≡ Open [] bytes
unfolding split_of
split_short deep bytes e = told_first most_bytes deep [] bytes ∙ ap (by_first most_bytes deep [] bytes) e

split_bad : (deep : ℕ) (bytes : List ℕ) (fault : ScanFault)
    → first_of most_bytes deep bytes ≡ Bad fault
    → split_of most_bytes deep bytes ≡ Broken [] fault
unfolding split_of
split_bad deep bytes fault e = told_first most_bytes deep [] bytes ∙ ap (by_first most_bytes deep [] bytes) e

-- packed bytes begin with an entry, or are none
pub packed_by_front : (deep : ℕ) (bytes : List ℕ) → 0 < length bytes
    → packed_entries deep bytes ≡ packed_by deep bytes (first_of most_bytes deep bytes)
unfolding packed_entries
packed_by_front deep bytes some = by_verdict (first_of most_bytes deep bytes) refl
  where
    by_verdict : (v : Verdict) → first_of most_bytes deep bytes ≡ v
        → option_and_then entries_of (values_to_the_end (split_of most_bytes deep bytes))
        ≡ packed_by deep bytes v
    by_verdict (Whole n) e =
        ap (λ s. option_and_then entries_of (values_to_the_end s)) (split_first most_bytes deep bytes n e) ∙ to_the_end-front (take n bytes) (split_of most_bytes deep (drop n bytes))
    by_verdict Short e = ap (λ s. option_and_then entries_of (values_to_the_end s)) (split_short deep bytes e) ∙ unfinished bytes some
      where
        unfinished : (rest : List ℕ) → 0 < length rest
            → option_and_then entries_of (values_to_the_end (Open [] rest)) ≡ None
        unfinished [] more = absurd (omega arith)
        unfinished (b ∷ rest) more = refl
    by_verdict (Bad fault) e = ap (λ s. option_and_then entries_of (values_to_the_end s)) (split_bad deep bytes fault e)

no_entry : (o : Option (List ℕ)) (others : Option (List (List ℕ))) → o ≡ None
    → before o others ≡ None
no_entry None others e = refl
no_entry (Some entry) others e = absurd cc

pub packed_nothing : (deep : ℕ) (bytes : List ℕ) → length bytes ≡ 0
    → packed_entries deep bytes ≡ Some []
unfolding packed_entries split_of
packed_nothing deep [] e = refl
packed_nothing deep (b ∷ bytes) e = absurd (omega arith)

-- a row that begins with no whole value
pub packed_not_whole : (deep : ℕ) (bytes : List ℕ) (v : Verdict) → 0 < length bytes
    → first_of most_bytes deep bytes ≡ v → ((n : ℕ) → v ≡ Whole n → ⊥)
    → packed_entries deep bytes ≡ None
packed_not_whole deep bytes v some e none = packed_by_front deep bytes some ∙ ap (packed_by deep bytes) e ∙ by_verdict v none
  where
    by_verdict : (w : Verdict) → ((n : ℕ) → w ≡ Whole n → ⊥)
        → packed_by deep bytes w ≡ None
    by_verdict (Whole n) not = absurd (not n refl)
    by_verdict Short not = refl
    by_verdict (Bad fault) not = refl

-- a row that begins with a value
pub packed_whole : (deep : ℕ) (bytes : List ℕ) (n : ℕ) → 0 < length bytes
    → first_of most_bytes deep bytes ≡ Whole n
    → packed_entries deep bytes
    ≡ before (entry_of (take n bytes)) (packed_entries deep (drop n bytes))
packed_whole deep bytes n some e = packed_by_front deep bytes some ∙ ap (packed_by deep bytes) e

-- a row that begins with a value that is no entry
pub packed_no_entry : (deep : ℕ) (bytes : List ℕ) (n : ℕ) → 0 < length bytes
    → first_of most_bytes deep bytes ≡ Whole n → entry_of (take n bytes) ≡ None
    → packed_entries deep bytes ≡ None
packed_no_entry deep bytes n some e none = packed_whole deep bytes n some e ∙ no_entry (entry_of (take n bytes)) (packed_entries deep (drop n bytes)) none
