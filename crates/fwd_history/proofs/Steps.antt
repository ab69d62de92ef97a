-- The ghost side of an entry: the book's invariant is opened, the words of the two pens are raised,
-- and the log goes on. It assumes `Logic`.
--
-- It cites the inside of the kit's `logbook`: how a book keeps its words and its log (`Kept`), and
-- what `learn` and `compare_exchange` are proved by (`Roster`). A later kit may name these anew.
-- Nothing is assumed of them that is not proved there.
use Rattle.std.proofs.Common.{◌≡◌, ℕ, zero, suc, ◌+◌, ◌<◌, Bool, true, false, List, [], ◌∷◌, ◌++◌, map, length, set, sym, refl, arith}
use mathlib.Core.List.{IsPrefix}
use mathlib.Mathlib.Data.Part.{◌∈◌}
use seplogic.Ra.Pcs.{OpDef, OpDef-comm}
use seplogic.Ra.Ura.{Ura}
use seplogic.Ra.Constructions.Prod
use seplogic.Ra.Instances.Ag
use base.Fraction.{full_share}
use base.FractionLaws.{not-OpDef-full_share}
use base.Share.{quarter, three_quarters}
use base.Share
use base.Stored.{Coded, coded_ℕ}
use base.SetCodes.{coded, SetCoded-set}
use base.Algebras.{pcs, shares}
use base.Logic.{SProp, ent, sep, ex, all, guard, upd, emp, id⊢, apply∗, all_e, upd_i, guard_i}
use base.Fml.{Share, Fml, ftrue, finv, fnamed}
use base.Growing.{latest}
use types.Logic.{Logic, sem}
use types.Keyed.{entries_beside, entry_cut}
use types.Growing.{latest_grows, latest_shows, latest_bounds}
use types.Kit.{‵, raw, ◌⊛◌, some, given, ◌$◌, ◌∵◌, !, qed, by, move, keep, drop, split, split3, join, fsplit, fsplit3, fjoin, fjoin3, fpick, fpack, pick, learn, show, check, frame, assume, suffices, settle, done, use1, use2, use3, rewrite}
use denote.Steps.{nothing}
use Rattle.logbook.specs.Pages.{Cell, cell, Book, Nib, Calm, Right, no_right, may_write, may_make, may_make_home}
use Rattle.logbook.specs.Kept.{halved, part, home, roster, nib_holds, pen_owns, logs, Rules, reached, standing, contents, seen_owns}
use Rattle.logbook.proofs.Roster.{prefix_out, prefix_in, resets, joined, at_home, Reset}
use Rattle.fwd_history.specs.Notes.{raise, raised, with_raised, Says, Knows, At, Allowed, WentOn}

module _ {M : Type 1} {𝓤 : Ura M} (𝓛 : Logic 𝓤) where
  open 𝓛 use {H, A as Atoms}

  abbrev Pr : Type 2
  Pr = SProp 𝓤

  abbrev ◌⊢◌ : Pr → Pr → Type 1
  P ⊢ Q = ent 𝓤 P Q

  abbrev ◌∗◌ : Pr → Pr → Pr
  P ∗ Q = sep 𝓤 P Q

  abbrev ⟦◌⟧ : Fml → Pr
  ⟦ P ⟧ = sem 𝓛 P

  infix 26 ◌⊢◌
  infixr 35 ◌∗◌
  module _ (δ : ℕ) where
    abbrev L : ℕ → ℕ → Fml
    L k n = part δ k quarter n

    abbrev R : ℕ → ℕ → Fml
    R k n = part δ k three_quarters n

    whole : (v : ℕ) → ◌∈◌ {α = Share × ℕ} (full_share, v) (halved.op (quarter, v) (three_quarters, v))
    whole v = Prod.mk-mem-op Share.op (Ag.op (SetCoded-set (coded coded_ℕ))) {a = quarter} {a' = three_quarters} {x = full_share} {b = v} {b' = v} {y = v} Share.quarters (Ag.idem (SetCoded-set (coded coded_ℕ)) v)

    cut : (k v : ℕ) → ⟦ part δ k full_share v ⟧ ⊢ ⟦ L k v ⟧ ∗ ⟦ R k v ⟧
    cut k v = entry_cut halved 𝓛 δ k (quarter, v) (three_quarters, v) (full_share, v) (whole v)

    -- the part of a pen and that of a book agree
    agree : (k n v : ℕ) (y : Bool) → ⟦ home δ k n y ⟧ ∗ ⟦ L k v ⟧ ⊢ guard 𝓤 (y ≡ true → n ≡ v) (⟦ home δ k n y ⟧ ∗ ⟦ L k v ⟧)
    agree k n v true = qed 𝓛 (‵ (R k n) ∷ ‵ (L k v) ∷ []) ∵ move ! (1 ∷ 0 ∷ []) $ use2 𝓛 (given (v ≡ n) (‵ (part δ k full_share v))) (joined 𝓛 δ k v n) $ learn ! (λ e. check ! (λ _. sym e) $
        use1 𝓛 (‵ (L k v) ⊛ ‵ (R k v)) (cut k v) $ split ! $ rewrite ! 1 (λ (m : ℕ). ‵ (R k m)) e refl $ move ! (1 ∷ 0 ∷ []) $ done !)
    agree k n v false = guard_i 𝓤 (false ≡ true → n ≡ v) (emp 𝓤 ∗ ⟦ L k v ⟧) (λ e. absurd (cc e))

    abbrev Here : List Cell → ℕ → ℕ → Type 0
    Here cs i v = (i < length cs) × ((cell cs i).1 ≡ true → (cell cs i).0 ≡ v)

    present : (cs : List Cell) (k i j v : ℕ) → j ≡ k + i → ⟦ roster δ k cs ⟧ ∗ ⟦ L j v ⟧ ⊢ guard 𝓤 (Here cs i v) (⟦ roster δ k cs ⟧ ∗ ⟦ L j v ⟧)
    present [] k i j v e = qed 𝓛 (‵ (roster δ k []) ∷ ‵ (L j v) ∷ []) ∵ move ! (1 ∷ 0 ∷ []) $
        use2 𝓛 (given (OpDef halved.op (quarter, v) (full_share, 0)) (‵ (L j v) ⊛ ‵ (roster δ k []))) (entries_beside halved 𝓛 δ k j (λ _. (full_share, 0)) (quarter, v) (omega arith)) $
        learn ! (λ x. absurd (not-OpDef-full_share quarter ((OpDef-comm (pcs shares) {a = quarter} {b = full_share}).0 x.0)))
    present (c ∷ cs) k zero j v e = let is : j ≡ k = omega arith in qed 𝓛 ((‵ (home δ k c.0 c.1) ⊛ ‵ (roster δ (suc k) cs)) ∷ ‵ (L j v) ∷ []) ∵ split ! $ rewrite ! 2 (λ (m : ℕ). ‵ (L m v)) is refl $ move ! (0 ∷ 2 ∷ []) $
        use2 𝓛 (given (c.1 ≡ true → c.0 ≡ v) (‵ (home δ k c.0 c.1) ⊛ ‵ (L k v))) (agree k c.0 v c.1) $ learn ! (λ so. check ! ((let r : zero < suc (length cs) = omega arith in r), so) $ split ! $
        rewrite ! 1 (λ (m : ℕ). ‵ (L m v)) (sym is) refl $ move ! (0 ∷ 2 ∷ []) $ join ! $ done !)
    present (c ∷ cs) k (suc i) j v e = qed 𝓛 ((‵ (home δ k c.0 c.1) ⊛ ‵ (roster δ (suc k) cs)) ∷ ‵ (L j v) ∷ []) ∵ split ! $ move ! (1 ∷ 2 ∷ []) $
        use2 𝓛 (given (Here cs i v) (‵ (roster δ (suc k) cs) ⊛ ‵ (L j v))) (present cs (suc k) i j v (omega arith)) $ learn ! (λ at. let l : i < length cs = at.0 in check ! ((let r : suc i < suc (length cs) = omega arith in r), at.1) $
        split ! $ move ! (2 ∷ 0 ∷ []) $ join ! $ done !)

    -- what a pen says of its word is so
    says : (cs : List Cell) (s : Right) (k n : ℕ) → ⟦ roster δ 0 cs ⟧ ∗ ⟦ nib_holds δ s k n ⟧ ⊢ guard 𝓤 (Says s k n cs) (⟦ roster δ 0 cs ⟧ ∗ ⟦ nib_holds δ s k n ⟧)
    says cs no_right k n = guard_i 𝓤 (Says no_right k n cs) _ (λ e. absurd (cc e))
    says cs may_write k n = guard_i 𝓤 (Says may_write k n cs) _ (λ e. absurd (cc e))
    says cs may_make k n = guard_i 𝓤 (Says may_make k n cs) _ (λ e. absurd (cc e))
    says cs may_make_home k n = qed 𝓛 (‵ (roster δ 0 cs) ∷ ‵ (L k n) ∷ []) ∵
        use2 𝓛 (given (Here cs k n) (‵ (roster δ 0 cs) ⊛ ‵ (L k n))) (present cs 0 k k n (omega arith)) $ learn ! (λ at. check ! (λ _. at) $ done !)

    -- a pen raises its word
    raises : (cs : List Cell) (s : Right) (k n : ℕ) → At s k cs → ⟦ roster δ 0 cs ⟧ ∗ ⟦ nib_holds δ s k n ⟧ ⊢ upd 𝓤 (⟦ roster δ 0 (with_raised s k n cs) ⟧ ∗ ⟦ nib_holds δ s k (raise s n) ⟧)
    raises cs no_right k n at = upd_i 𝓤 _
    raises cs may_write k n at = upd_i 𝓤 _
    raises cs may_make k n at = upd_i 𝓤 _
    raises cs may_make_home k n at = let h = at refl in let x : ℕ = (cell cs k).0 in let Z : Pr = ⟦ roster δ 0 (set cs k (n + 1, true)) ⟧ ∗ ⟦ L k (n + 1) ⟧ in qed 𝓛 (‵ (roster δ 0 cs) ∷ ‵ (L k n) ∷ []) ∵
        use1 𝓛 (‵ (R k x) ⊛ raw (all 𝓤 (Reset 𝓛 δ 0 cs k k))) (at_home 𝓛 δ cs 0 k k (omega arith) h.0 h.1) $ split ! $ move ! (2 ∷ 0 ∷ []) $
        use2 𝓛 (given (n ≡ x) (‵ (part δ k full_share n))) (joined 𝓛 δ k n x) $ learn ! (λ _.
        use1 𝓛 (raw (upd 𝓤 (⟦ L k (n + 1) ⟧ ∗ ⟦ R k (n + 1) ⟧))) (resets 𝓛 δ k n (n + 1)) $ settle 𝓛 Z (‵ (L k (n + 1)) ⊛ ‵ (R k (n + 1))) $ split ! $ move ! (2 ∷ []) $
        use1 𝓛 (raw (Reset 𝓛 δ 0 cs k k (n + 1))) (all_e 𝓤 (Reset 𝓛 δ 0 cs k k) (n + 1)) $ move ! (2 ∷ 0 ∷ []) $
        use2 𝓛 (‵ (roster δ 0 (set cs k (n + 1, true)))) (apply∗ 𝓤 ⟦ R k (n + 1) ⟧ ⟦ roster δ 0 (set cs k (n + 1, true)) ⟧) $ suffices ! _ (upd_i 𝓤 Z) $ done !)

  module _ {E : Type 0} (cv : Coded E) (rule : Rules E) (bk : Book) (names : List ℕ) where
    abbrev J : Fml
    J = contents cv.code rule bk.log_name bk.cells_name names

    abbrev N : Fml
    N = fnamed bk.number J

    abbrev had : List E → Fml
    had = reached cv.code bk.log_name

    abbrev top : List E → Fml
    top log = latest logs full_share bk.log_name (map cv.code log)

    abbrev K : List E → Fml
    K = seen_owns cv.code rule bk names

    abbrev Q : Type 0
    Q = Calm (rule.keeps names)

    opened : (log : List E) → ⟦ K log ⟧ ⊢ guard 𝓤 Q (⟦ N ⟧ ∗ ⟦ had log ⟧)
    unfolding Rattle.logbook.specs.Kept.seal
    opened log = id⊢ 𝓤 _

    closed : (log : List E) → Q → ⟦ N ⟧ ∗ ⟦ had log ⟧ ⊢ ⟦ K log ⟧
    unfolding Rattle.logbook.specs.Kept.seal
    closed log q = guard_i 𝓤 Q (⟦ N ⟧ ∗ ⟦ had log ⟧) q

    under : (log l : List E) → ⟦ top log ⟧ ∗ ⟦ had l ⟧ ⊢ guard 𝓤 (IsPrefix l log) (⟦ top log ⟧ ∗ ⟦ had l ⟧)
    under log l = qed 𝓛 (‵ (top log) ∷ ‵ (had l) ∷ []) ∵ use2 𝓛 (given (IsPrefix (map cv.code l) (map cv.code log)) (‵ (top log) ⊛ ‵ (had l))) (latest_bounds logs 𝓛 full_share bk.log_name (map cv.code log) (map cv.code l)) $
        learn ! (λ p. check ! (prefix_out cv l log p) $ done !)

    shown : (log : List E) → ⟦ top log ⟧ ⊢ ⟦ top log ⟧ ∗ ⟦ had log ⟧
    shown log = latest_shows logs 𝓛 full_share bk.log_name (map cv.code log) (map cv.code log) (logs.same (map cv.code log))

    shut : (cs : List Cell) (log : List E) → rule.holds cs log → ⟦ roster bk.cells_name 0 cs ⟧ ∗ ⟦ top log ⟧ ∗ ⟦ rule.keeps names (rule.shows log) ⟧ ⊢ ⟦ J ⟧
    shut cs log so = qed 𝓛 (‵ (roster bk.cells_name 0 cs) ∷ ‵ (top log) ∷ ‵ (rule.keeps names (rule.shows log)) ∷ []) ∵ nothing ! $ fpack ! (rule.holds cs log) (λ _. ftrue) so $ move ! (3 ∷ 0 ∷ []) $ fjoin ! $
        move ! (1 ∷ 2 ∷ 0 ∷ []) $ fjoin3 ! $ fpack ! (List Cell × List E) (standing cv.code rule bk.log_name bk.cells_name names) (cs, log) $ done !

    abbrev Open : List E → List Cell × List E → Pr
    Open l s = guard 𝓤 (rule.holds s.0 s.1 × IsPrefix l s.1) (⟦ roster bk.cells_name 0 s.0 ⟧ ∗ ⟦ top s.1 ⟧ ∗ ⟦ rule.keeps names (rule.shows s.1) ⟧)

    looked : (l : List E) → ⟦ J ⟧ ∗ ⟦ had l ⟧ ⊢ ex 𝓤 (Open l)
    looked l = qed 𝓛 (‵ J ∷ ‵ (had l) ∷ []) ∵ fpick ! (λ s. fsplit3 ! $ move ! (2 ∷ []) $ fsplit ! $ move ! (1 ∷ []) $ fpick ! (λ so. drop ! $ move ! (2 ∷ 3 ∷ []) $
        use2 𝓛 (given (IsPrefix l s.1) (‵ (top s.1) ⊛ ‵ (had l))) (under s.1 l) $ learn ! (λ p. split ! $ show ! (Open l) s $ check ! (so, p) $ keep ! (3 ∷ 0 ∷ 2 ∷ []) $ done !)))

    abbrev seeing : List E → types.Kit.Item 𝓤
    seeing l = some (λ (s : List Cell × List E). given (rule.holds s.0 s.1 × IsPrefix l s.1) (‵ (roster bk.cells_name 0 s.0) ⊛ ‵ (top s.1) ⊛ ‵ (rule.keeps names (rule.shows s.1))))

    abbrev pub Noted : (List E → E → Type 0) → List E → Nib → Nib → E → List E → Pr
    Noted meant l p q e log = guard 𝓤 (WentOn rule.holds meant l p q log e) (⟦ K (log ++ e ∷ []) ⟧ ∗ ⟦ pen_owns bk (raised p) ⟧ ∗ ⟦ pen_owns bk (raised q) ⟧)

    pub notes : (meant : List E → E → Type 0) (l : List E) (p q : Nib) (e : E) → Allowed rule.holds rule.shows meant l p q e → ⟦ K l ⟧ ∗ ⟦ pen_owns bk p ⟧ ∗ ⟦ pen_owns bk q ⟧ ⊢ H.⇛ (ex 𝓤 (Noted meant l p q e))
    unfolding pen_owns
    notes meant l p q e allowed = let δ : ℕ = bk.cells_name in let Z : Pr = ex 𝓤 (Noted meant l p q e) in let G : Pr = ⟦ J ⟧ ∗ Z in
        qed 𝓛 (‵ (K l) ∷ ‵ (pen_owns bk p) ∷ ‵ (pen_owns bk q) ∷ []) ∵ use1 𝓛 (given Q (‵ N ⊛ ‵ (had l))) (opened l) $ learn ! (λ calm. split ! $
        use1 𝓛 (‵ N ⊛ ‵ N) (𝓛.invs.named_dup bk.number J) $ split ! $ use1 𝓛 (‵ (finv J)) (𝓛.invs.named_inv bk.number J) $
        suffices ! _ (𝓛.invs.inv_acc J Z) $ frame ! $ assume ! (‵ J) $ move ! (0 ∷ 2 ∷ []) $ use2 𝓛 (seeing l) (looked l) $ pick ! (λ s. learn ! (λ so. split3 ! $
        let cs : List Cell = s.0 in let log : List E = s.1 in let log' : List E = log ++ e ∷ [] in let cs1 : List Cell = with_raised p.right p.key p.value cs in let cs2 : List Cell = with_raised q.right q.key q.value cs1 in
        move ! (0 ∷ 4 ∷ []) $ use2 𝓛 (given (Knows p cs) (‵ (roster δ 0 cs) ⊛ ‵ (pen_owns bk p))) (says δ cs p.right p.key p.value) $ learn ! (λ kp. split ! $
        move ! (0 ∷ 5 ∷ []) $ use2 𝓛 (given (Knows q cs) (‵ (roster δ 0 cs) ⊛ ‵ (pen_owns bk q))) (says δ cs q.right q.key q.value) $ learn ! (λ kq. split ! $
        let r = allowed cs log so.0 so.1 kp kq in
        move ! (0 ∷ 2 ∷ []) $ use2 𝓛 (raw (upd 𝓤 (⟦ roster δ 0 cs1 ⟧ ∗ ⟦ pen_owns bk (raised p) ⟧))) (raises δ cs p.right p.key p.value r.0) $ settle 𝓛 G (‵ (roster δ 0 cs1) ⊛ ‵ (pen_owns bk (raised p))) $ split ! $
        move ! (0 ∷ 2 ∷ []) $ use2 𝓛 (raw (upd 𝓤 (⟦ roster δ 0 cs2 ⟧ ∗ ⟦ pen_owns bk (raised q) ⟧))) (raises δ cs1 q.right q.key q.value r.1) $ settle 𝓛 G (‵ (roster δ 0 cs2) ⊛ ‵ (pen_owns bk (raised q))) $ split ! $
        move ! (3 ∷ []) $ use1 𝓛 (raw (upd 𝓤 ⟦ top log' ⟧)) (latest_grows logs 𝓛 bk.log_name (map cv.code log) (map cv.code log') (prefix_in cv log (e ∷ []))) $ settle 𝓛 G (‵ (top log')) $
        use1 𝓛 (‵ (top log') ⊛ ‵ (had log')) (shown log') $ split ! $ suffices ! _ (upd_i 𝓤 G) $
        move ! (5 ∷ []) $ rewrite ! 0 (λ (x : List E). ‵ (rule.keeps names x)) (sym r.3) refl $
        move ! (3 ∷ 1 ∷ 0 ∷ []) $ use3 𝓛 (‵ J) (shut cs2 log' r.2) $ frame ! $ show ! (Noted meant l p q e) log $ check ! (so.1, (cs, so.0, kp, kq), r.4) $
        keep ! (3 ∷ 0 ∷ 1 ∷ 2 ∷ []) $ use2 𝓛 (‵ (K log')) (closed log' calm) $ move ! (0 ∷ 2 ∷ 1 ∷ []) $ done !)))))
