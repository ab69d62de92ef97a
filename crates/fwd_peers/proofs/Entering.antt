-- A source's first request enters an output, or does not.
use Rattle.std.proofs.Common.{◌≡◌, ◌≤◌, ◌⊎◌, inl, inr, Bool, true, false, ℕ, List, [], ◌∷◌, Option, Some, None, Result, Ok, Err, refl, sym, ap, subst, ◌∙◌}
use Rattle.std.specs.Prelude.{IfErr, IfOk, IfSome, is_some}
use Rattle.fwd_modes.specs.Requests.{Request}
use Rattle.fwd_modes.specs.declared.origin.Origin.{Origin}
use Rattle.fwd_source.specs.Live.{LiveSource, first_waiting, source_gives, source_gives_first}
use Rattle.fwd_book.specs.declared.refusal.AdmitRefusal.{AdmitRefusal}
use Rattle.fwd_book.specs.declared.refusal.AdmitRefusal.TheVariants as refusal
use Rattle.fwd_output.specs.PagedSources.{Entered, IsKeptOut, SourceShown}
use Rattle.fwd_output.proofs.Knowing.{gives_first}
use Rattle.fwd_peers.specs.Peers.{PeerShown, Gives, GivesInVain, Promises, first_asked, owed_with, promised_with}

one_asked : {a b : Origin × Request} → Some a ≡ Some b → a ≡ b
one_asked e = cc

none_asked : {a : Origin × Request} → Some a ≡ None → ⊥
none_asked e = cc

true_false : true ≡ false → ⊥
true_false e = cc

first_conn : (s : LiveSource) (waiting : List Request) (asked : Origin × Request) → first_waiting s waiting ≡ Some asked → asked.0.conn ≡ s.setup.conn
first_conn s [] asked first = absurd cc
first_conn s (r ∷ rs) asked first = sym (ap (λ (a : Origin × Request). a.0.conn) (one_asked first))

-- what holds of a value that there is
pub some_holds : {X : Type 0} {P : Type 0} (o : Option X) → is_some o ≡ true → IfSome o (λ x. P) → P
some_holds None some holds = absurd cc
some_holds (Some x) some holds = holds

pub ok_holds : {X E : Type 0} {P Q : X → Type 0} (r : Result X E) → ((x : X) → P x → Q x) → IfOk r P → IfOk r Q
ok_holds (Ok x) on holds = on x holds
ok_holds (Err e) on holds = tt

pub err_holds : {X E : Type 0} {P Q : E → Type 0} (r : Result X E) → ((e : E) → P e → Q e) → IfErr r P → IfErr r Q
err_holds (Ok x) on holds = tt
err_holds (Err e) on holds = on e holds

-- a source m that promised room for the request, and its account u, which is v then
module _ (s m : PeerShown) (u : SourceShown) (asked : Origin × Request) (promised : Promises s asked m)
    (live : u.live ≡ m.live) (refused : u.refused ≡ m.refused) (own : m.id ≡ u.live.setup.conn) where
  same_live : u.live ≡ s.live
  same_live = live ∙ ap (λ (p : PeerShown). p.live) promised.3

  same_asked : (ticket : Origin × Request) → first_waiting u.live u.live.waiting ≡ Some ticket → asked ≡ ticket
  same_asked ticket first = one_asked (sym promised.1 ∙ sym (ap (λ (x : LiveSource). first_waiting x x.waiting) same_live) ∙ first)

  pub entered : (v : SourceShown) (t : PeerShown) (ticket : Origin × Request) → u.room ≡ m.room
      → t ≡ record m { live = v.live; room = v.room; refused = v.refused } → Entered u ticket v → Gives s (Some ticket) t
  entered v t ticket room is enters =
      let p : Promises s ticket m = subst (λ a. Promises s a m) (same_asked ticket enters.0) promised in
      let gave : v.live ≡ source_gives_first s.live s.live.waiting =
      ap (λ (x : SourceShown). x.live) enters.1 ∙ ap source_gives same_live ∙ sym (gives_first s.live ticket p.1) in
      let kept : v.refused ≡ s.refused = ap (λ (x : SourceShown). x.refused) enters.1 ∙ refused ∙ ap (λ (x : PeerShown). x.refused) p.3 in
      let here : v.room ≡ t.room = sym (ap (λ (x : PeerShown). x.room) is) in
      let enough : m.room ≡ t.room = sym room ∙ sym (ap (λ (x : SourceShown). x.room) enters.1) ∙ here in (
        p.1,
        subst (λ n. promised_with s ticket.1 ≤ n) enough p.2,
        is ∙ (λ i. record (p.3 i) { live = gave i; room = here i; refused = kept i }),
        first_conn s.live s.live.waiting ticket p.1 ∙ ap (λ (x : LiveSource). x.setup.conn) (sym same_live) ∙ sym own ∙ ap (λ (x : PeerShown). x.id) p.3,
      )

  pub kept_out : (v : SourceShown) (t : PeerShown) (why : AdmitRefusal) → u.room ≡ m.room
      → t ≡ record m { live = v.live; room = v.room; refused = v.refused } → IsKeptOut u why v
      → ((why ≡ refusal.Memory) × Gives s None t) ⊎ ((ticket : Origin × Request) × GivesInVain s ticket t)
  kept_out v t why room is (inl (memory, same, inl before)) =
      absurd (true_false (sym before ∙ refused ∙ ap (λ (x : PeerShown). x.refused) promised.3 ∙ promised.0))
  kept_out v t why room is (inl (memory, same, inr none)) =
      absurd (none_asked (sym promised.1 ∙ sym (ap (λ (x : LiveSource). first_waiting x x.waiting) same_live) ∙ none))
  kept_out v t why room is (inr (ticket, (first, same))) =
      inr (
        ticket,
        record {
          given = record m { live = v.live; room = v.room; refused = u.refused };
          gives = entered (record v { refused = u.refused }) (record m { live = v.live; room = v.room; refused = u.refused }) ticket room refl
              (first, λ i. record (same i) { refused = u.refused });
          rest = is ∙ (λ i. record m { live = v.live; room = v.room; refused = (ap (λ (x : SourceShown). x.refused) same) i });
        },
      )
