-- `note` opens its three tokens, makes the entry in the ghost state, and closes them. It is proved
-- by hand, since only a proof can change the ghost state of a book. It cites how the kit's `logbook`
-- keeps its tokens (`Kept`, `Fields`). Its walk is that of `learn`, with two pens more.
use Rattle.std.proofs.Common.{List, [], ◌∷◌, ◌++◌, sym, refl}
use mir.Syntax.{a_type, dcons, dnil, named}
use mir.Val.{Val, vunit, vptr}
use mir.MapTy.{inst_fn}
use base.Logic.{SProp, emp}
use base.Fml.{Fml, ftrue, fsep, flft}
use types.Kit.{‵, raw, ◌⊛◌, some, given, later, ◌$◌, ◌∵◌, !, qed, by, move, keep, drop, split, split3, fsplit, fsplit3, fjoin, fjoin3, pick, learn, use3, await, rewrite, feq_i}
use types.Run.{unit_lit, of_opd, returns, enter}
use types.ByLocal.{alloc_all, pass_all, free_all, look_at, sets}
use contract.Monad.{fact, fact_i}
use contract.Running.{tables}
use denote.Exit.{yes}
use denote.RattleType.{RattleType, owns}
use denote.Signature.{types_at, plain}
use denote.Builtin.{RefOf}
use denote.Ref.{mut_vals, mut_Tells, shr_vals, shr_Tells}
use denote.Steps.{nothing, opens, closes}
use denote.Param.{param, bounded}
use denote.Triple.Walked.{Stays, stay_dropped, stay_ref, walk_of, Goes-dropped, Goes-ref}
use Rattle.std.proofs.raw_atomic.Walks.{proved}
use Rattle.logbook.specs.Pages.{Book}
use Rattle.logbook.specs.Kept.{rules, seen_owns, pen_owns}
use Rattle.logbook.specs.contracts.tokens.Seen as Seen
use Rattle.logbook.specs.contracts.tokens.Pen as Pen
use Rattle.logbook.proofs.Fields.{ends}
use Rattle.fwd_history.specs.Notes.{WentOn, raised}
use Rattle.fwd_history.proofs.Steps as steps
use Rattle.fwd_history.specs.contracts.entry.note.{ended, clauses}
use Rattle.fwd_history.specs.contracts.entry.note.Key.{name}
use Rattle.fwd_history.proofs.entry.note.Statement.{statement}
use Rattle.fwd_history.proofs.entry.note.Code as code

pub note_spec : {M : Type 1} → statement M
note_spec 𝓤 𝓛 𝓜 𝓡 wired E A P X D _ _ _ _ _ g d gd dd _ _ =
    let H = 𝓛.H in let 𝓣 = tables 𝓤 H 𝓜 𝓡 𝓡.env in let E' : RattleType = param 0 E in let A' : RattleType = param 1 A in let P' : RattleType = param 2 P in let X' : RattleType = param 3 X in
    let En = ended E A P X D g d gd dd in let S : RattleType = Seen.the_row E' A' P' g in let N : RattleType = Pen.the_row in
    let inst = bounded (a_type ∷ a_type ∷ a_type ∷ a_type ∷ a_type ∷ []) (E, (A, (P, (X, (D, tt))))) (dcons d (dcons dd dnil)) in let fn = inst_fn inst code.function in let c = clauses E A P X D g d gd dd 𝓛 𝓜.mem 𝓡.returns in
    let rule = rules g.holds g.shows g.keeps in let cv = E'.coded in
    let hs : Stays En.signature.params En.kept = (stay_ref (0 ∷ []) tt (plain (λ _. S)), (stay_ref (1 ∷ []) tt (plain (λ _. N)), (stay_ref (2 ∷ []) tt (plain (λ _. N)), (stay_dropped (RefOf (3 ∷ []) tt (plain (λ _. X')) (λ _. tt)) yes, tt)))) in
    proved 𝓛 En hs c 𝓜 𝓡 (Goes-ref 𝓛 9 0 tt (plain (λ _. S)), (Goes-ref 𝓛 9 1 tt (plain (λ _. N)), (Goes-ref 𝓛 9 2 tt (plain (λ _. N)), (Goes-dropped 𝓛 9 (RefOf (3 ∷ []) tt (plain (λ _. X')) (λ _. tt)) yes (λ κs x f. refl), tt))))
    (name inst) fn (code.unfolded 𝓤 H 𝓜 𝓡 wired (E, (A, (P, (X, (D, tt))))) d dd)
    (λ κs. (mut_vals, (mut_vals, (mut_vals, (shr_vals, tt))))) (λ κs. (mut_Tells (named 0) κs.0 S, (mut_Tells (named 1) κs.1.0 N, (mut_Tells (named 2) κs.1.1.0 N, (shr_Tells (named 3) κs.1.1.1.0 X', tt))))) (λ κs qs bounds a gh are.
    let me = a.0.now in let p = a.1.0.now in let q = a.1.1.0.now in let meant = gd.meant a.1.1.1.0.now p.nib q.nib in
    let u0 : Val = vptr a.0.ref_ptr.0 a.0.ref_ptr.1 in let u1 : Val = vptr a.1.0.ref_ptr.0 a.1.0.ref_ptr.1 in let u2 : Val = vptr a.1.1.0.ref_ptr.0 a.1.1.0.ref_ptr.1 in let u3 : Val = vptr a.1.1.1.0.ref_ptr.0 a.1.1.1.0.ref_ptr.1 in
    let y : (walk_of 𝓛 En hs c).Ghost = ((κs, qs, bounds, a, (u0 ∷ [], (u1 ∷ [], (u2 ∷ [], (u3 ∷ [], tt))))), gh) in let Post : Val → SProp 𝓤 = (walk_of 𝓛 En hs c).post y in
    let toks : Fml = fsep (flft κs.0 qs.0) (fsep (flft κs.1.0 qs.1.0) (fsep (flft κs.1.1.0 qs.1.1.0) (fsep (flft κs.1.1.1.0 qs.1.1.1.0) (fsep (flft κs.1.1.1.1.0 qs.1.1.1.1.0) (fsep (flft κs.1.1.1.1.1.0 qs.1.1.1.1.1.0) (fsep (flft κs.1.1.1.1.1.1.0 qs.1.1.1.1.1.1.0) (fsep (flft κs.1.1.1.1.1.1.1.0 qs.1.1.1.1.1.1.1.0) (fsep (flft κs.1.1.1.1.1.1.1.1.0 qs.1.1.1.1.1.1.1.1.0) ftrue)))))))) in
    qed 𝓛 ((‵ toks ⊛ ‵ (owns (types_at En.signature.params κs) a y.0.4)) ∷ raw (fact 𝓤 _) ∷ raw (fact 𝓤 _) ∷ raw (fact 𝓤 _) ∷ raw (fact 𝓤 _) ∷ raw (fact 𝓤 _) ∷ given _ (‵ ftrue) ∷ []) ∵ keep ! (6 ∷ 0 ∷ []) $ learn ! (λ asked. let e = asked.2.0 in drop ! $ split ! $
    fsplit ! $ move ! (1 ∷ []) $ fsplit ! $ move ! (1 ∷ []) $ fsplit ! $ move ! (1 ∷ []) $ fsplit ! $ move ! (5 ∷ []) $
    fsplit ! $ fsplit3 ! $ move ! (3 ∷ []) $ fsplit ! $ fsplit3 ! $ move ! (3 ∷ []) $ fsplit ! $ fsplit3 ! $ keep ! (8 ∷ 9 ∷ 14 ∷ 5 ∷ 6 ∷ 13 ∷ 1 ∷ 2 ∷ 12 ∷ 10 ∷ 11 ∷ []) $
    enter ! 𝓣.C 𝓣.Λ fn (u0 ∷ u1 ∷ u2 ∷ u3 ∷ []) Post $ alloc_all ! (λ l. pass_all ! refl ((tt, tt), ((tt, tt), ((tt, tt), ((tt, tt), tt)))) $
    opens ! tt S a.0.ref_ptr.0 a.0.ref_ptr.1 (λ vs0. move ! (1 ∷ []) $ fsplit ! $ move ! (1 ∷ []) $
    move ! (6 ∷ 7 ∷ 8 ∷ []) $ opens ! tt N a.1.0.ref_ptr.0 a.1.0.ref_ptr.1 (λ vs1. move ! (1 ∷ []) $ fsplit ! $ move ! (1 ∷ []) $ rewrite ! 0 (λ (z : Book). ‵ (pen_owns z p.nib)) asked.0 refl $
    move ! (12 ∷ 13 ∷ 14 ∷ []) $ opens ! tt N a.1.1.0.ref_ptr.0 a.1.1.0.ref_ptr.1 (λ vs2. move ! (1 ∷ []) $ fsplit ! $ move ! (1 ∷ []) $ rewrite ! 0 (λ (z : Book). ‵ (pen_owns z q.nib)) asked.1 refl $
    move ! (12 ∷ 6 ∷ 0 ∷ []) $ use3 𝓛 (later (some (λ (log : List E.Denot). given (WentOn g.holds meant me.log p.nib q.nib log e) (‵ (seen_owns cv.code rule me.book me.names (log ++ e ∷ [])) ⊛ ‵ (pen_owns me.book (raised p.nib)) ⊛ ‵ (pen_owns me.book (raised q.nib))))))
    (steps.notes 𝓛 cv rule me.book me.names meant me.log p.nib q.nib e asked.2.1) $ await ! tt $ pick ! (λ log. learn ! (λ pre. split3 ! $
    move ! (3 ∷ 2 ∷ []) $ fjoin ! $ move ! (3 ∷ 0 ∷ 4 ∷ 5 ∷ 6 ∷ []) $ closes ! tt N (record { marker = record {}; book = me.book; nib = raised q.nib }) vs2 a.1.1.0.ref_ptr.0 a.1.1.0.ref_ptr.1 $
    move ! (5 ∷ 4 ∷ []) $ fjoin ! $ move ! (5 ∷ 0 ∷ 6 ∷ 7 ∷ 8 ∷ []) $ closes ! tt N (record { marker = record {}; book = me.book; nib = raised p.nib }) vs1 a.1.0.ref_ptr.0 a.1.0.ref_ptr.1 $
    move ! (7 ∷ 6 ∷ []) $ fjoin ! $ move ! (7 ∷ 0 ∷ 8 ∷ 9 ∷ 10 ∷ []) $ closes ! tt S (record { marker = record {}; book = me.book; names = me.names; log = log ++ e ∷ [] }) vs0 a.0.ref_ptr.0 a.0.ref_ptr.1 $
    sets ! (of_opd ! (unit_lit !)) refl (tt, tt) $ feq_i ! (List Val) (vunit ∷ []) (vunit ∷ []) refl $
    move ! (10 ∷ 11 ∷ []) $ fjoin ! $ move ! (10 ∷ 0 ∷ []) $ fjoin ! $ move ! (7 ∷ 0 ∷ []) $ fjoin ! $ move ! (4 ∷ 0 ∷ []) $ fjoin ! $ nothing ! $ nothing ! $ fjoin ! $
    feq_i ! (List Val) (u2 ∷ []) (u2 ∷ []) refl $ move ! (0 ∷ 8 ∷ 9 ∷ []) $ fjoin3 ! $ fjoin ! $ feq_i ! (List Val) (u1 ∷ []) (u1 ∷ []) refl $ move ! (0 ∷ 6 ∷ 7 ∷ []) $ fjoin3 ! $ fjoin ! $
    feq_i ! (List Val) (u0 ∷ []) (u0 ∷ []) refl $ move ! (0 ∷ 4 ∷ 5 ∷ []) $ fjoin3 ! $ fjoin ! $
    returns ! (look_at ! 0 refl) $ free_all ! refl $ keep ! (1 ∷ 0 ∷ 2 ∷ []) $
    by ! (ends 𝓛 En hs c y vunit tt ((record { marker = record {}; book = me.book; names = me.names; log = log ++ e ∷ [] }), ((record { marker = record {}; book = me.book; nib = raised p.nib }), ((record { marker = record {}; book = me.book; nib = raised q.nib }), (tt, tt)))) (tt, (tt, (tt, (tt, tt)))) (fact_i 𝓤 _ (emp 𝓤) (refl, refl, sym asked.0, sym asked.1, refl, refl, (log, e, pre, refl))))))))))))
