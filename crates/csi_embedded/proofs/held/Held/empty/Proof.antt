-- `empty` owns nothing but its allocator.
use Rattle.std.proofs.Common.{List, [], ◌∷◌, ◌++◌, refl, sym, subst, lit<, w64}
use mir.Val.{Val, vint, vstruct, vcons, vnil, has_ty}
use base.Logic.{SProp, ent, emp, id⊢}
use base.Fml.{ftrue, fsep}
use prog.Wp.{WpFn}
use types.Kit.{‵, raw, ◌⊛◌, ◌$◌, ◌∵◌, !, qed, move, drop, use1, join, split, fsplit, fjoin, feq_i, fpack, suffices, done}
use types.Part.{agg}
use types.Run.{lit, no_more, and_then, returns, enter}
use types.ByLocal.{alloc_all, pass_all, free_all, look_at, get, sets}
use contract.Running.{tables}
use denote.Exit.{yes}
use denote.Builtin.{RawPtr}
use denote.RawPtr.{null_ptr, ptr_val}
use denote.RattleType.{Valss}
use denote.Signature.{type_at, plain}
use denote.Steps.{nothing}
use denote.Struct.Struct.{within}
use denote.Struct.Owning.{shape, to}
use denote.Triple.Walked.{says, Stays, stay_dropped, walk_of, ends_at, Goes-dropped}
use Rattle.std.specs.Prelude.{None}
use Rattle.std.proofs.alloc.Calls.{α, handle_tells}
use Rattle.std_alloc.proofs.ResultValues.{and_tt}
use Rattle.std.proofs.raw_atomic.Walks.{proved_at}
use Rattle.std_heap.specs.contracts.Global as Heap
use Rattle.csi_embedded.proofs.AsBox.{E}
use Rattle.csi_embedded.specs.contracts.held.Held as Held
use Rattle.csi_embedded.specs.contracts.held.Held.empty as F
use Rattle.csi_embedded.specs.contracts.held.Held.empty.Key.{name as #self}
use Rattle.csi_embedded.proofs.held.Held.empty.Statement.{statement}
use Rattle.csi_embedded.proofs.held.Held.empty.Code as code

abbrev stayed : Stays (F.ended).signature.params (F.ended).kept
stayed = (stay_dropped (plain (λ _. Heap.the_row)) yes, tt)

pub empty_spec : {M : Type 1} → statement M
empty_spec 𝓤 𝓛 𝓜 𝓡 wired =
    let 𝓣 = tables 𝓤 𝓛.H 𝓜 𝓡 𝓡.env in let c = F.clauses 𝓛 𝓜.mem 𝓡.returns in
    proved_at 𝓛 F.ended stayed c 𝓜 𝓡 (Goes-dropped 𝓛 0 (plain (λ _. Heap.the_row)) yes (λ κs x f. refl), tt) #self code.function (code.unfolded 𝓤 𝓛.H 𝓜 𝓡 wired) (λ z are.
    let a = z.0.3.0 in
    let To = type_at (F.signature).result tt in
    let made : To.Denot = record { at = null_ptr; alloc = a; embedded = None } in
    let Post : Val → SProp 𝓤 = (walk_of 𝓛 F.ended stayed c).post z in
    let Run : List Val → SProp 𝓤 = λ ws. WpFn 𝓤 𝓛.H 𝓣.C 𝓣.Λ code.function ws Post in
    qed 𝓛 ((‵ ftrue ⊛ ‵ (fsep (Heap.the_row.own_val a z.0.4.0) ftrue)) ∷ raw (emp 𝓤) ∷ []) ∵ split ! $ drop ! $ fsplit ! $
    handle_tells E.al ! a z.0.4.0 (λ h ws fits.
    suffices ! (Run (h ∷ [])) (subst (λ (us : List Val). ent 𝓤 (Run (h ∷ [])) (Run us)) (sym (λ i. ws i ++ [])) (id⊢ 𝓤 (Run (h ∷ [])))) $
    enter ! 𝓣.C 𝓣.Λ code.function (h ∷ []) Post $ alloc_all ! (λ l. pass_all ! refl (fits, tt) $
    sets ! (agg ! (and_then ! (lit ! tt) (and_then ! (get ! refl) (no_more !)))) refl (and_tt (has_ty (α E.al) h) fits.0, (record { fits = lit< tt }, (fits.1, tt))) $
    returns ! (look_at ! 0 refl) $ free_all ! refl $
    let w : Val = vstruct (vcons (vint w64 0) (vcons h vnil)) in
    -- [the allocator; no other parameter; nothing required]
    fjoin ! $ feq_i ! (List Val) (vint w64 0 ∷ []) (ptr_val null_ptr ∷ []) refl $ fjoin ! $ feq_i ! (List Val) (w ∷ []) (w ∷ []) refl $ fjoin ! $
    fpack ! (Valss (RawPtr ∷ Heap.the_field.row ∷ [])) (within (shape Held.the_type) (to Held.the_type made) (w ∷ [])) (vint w64 0 ∷ [], (h ∷ [], tt)) $
    nothing ! $ move ! (1 ∷ []) $ fjoin ! $ use1 𝓛 (‵ (To.own_val made (w ∷ []))) (id⊢ 𝓤 _) $ move ! (1 ∷ []) $ drop ! $
    suffices ! _ (ends_at 𝓛 F.ended stayed c z w made (tt, tt) (tt, tt)) $ says ! refl $
    nothing ! $ nothing ! $ fjoin ! $ join ! $ nothing ! $ join ! $ done !)))
