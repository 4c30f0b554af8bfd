-- What is kept is what is loaded again once it is stored.
use Rattle.std.proofs.Common.{◌≡◌, ℕ, ◌<◌, ◌^◌, Bool, true, false, List, ◌∷◌, Option, Some, None, refl, sym, ap, ◌∙◌}
use Rattle.std.proofs.Common.{subst, arith}
use Rattle.std.proofs.lemmas.Bool.{and_from}
use Rattle.std.specs.Prelude.{if◌then◌else◌, nat_lt, slice_get, ◌==◌}
use Rattle.pass_frames_proof.specs.frame_classes.declared.class.SlotClass.{SlotClass}
use Rattle.pass_frames_proof.specs.ir_base.declared.outcome.Word.{Word}
use Rattle.pass_frames_proof.proofs.ir_laws.facts.Truth.{itself}
use Rattle.pass_frames_proof.specs.ir_model.Names.{function_at}
use Rattle.pass_frames_proof.specs.ir_model.Ty.{Ty, array, int, named, ptr, structure, token}
use Rattle.pass_frames_proof.specs.ir_model.declared.instr.Terminator.{Terminator}
use Rattle.pass_frames_proof.specs.ir_model.declared.module.Function.{Function}
use Rattle.pass_frames_proof.specs.ir_model.declared.module.Module.{Module}
use Rattle.pass_frames_proof.specs.ir_model.declared.operand.Arg.{Arg}
use Rattle.pass_frames_proof.specs.pass_cells.Kept.{entry, value_types}
use Rattle.pass_frames_proof.specs.pass_cells.Links.{bases_of, slots_of}
use Rattle.pass_frames_proof.specs.pass_cells.Plan.{kept_value, type_at}
use Rattle.pass_frames_proof.specs.pass_cells.declared.plan.KeptValue.{KeptValue}
use Rattle.pass_frames_meaning.proofs.pointers.Actions.{action_fine}
use Rattle.pass_frames_meaning.specs.Pointers.{ArePointingBelow, IsPointingState, PointsAs, PointsBack, PointsBy}
use Rattle.pass_frames_meaning.specs.Setting.{KeepsAll, Setting}
use Rattle.pass_frames_meaning.specs.Coroutines.{HasStorables}
use Rattle.pass_frames_proof.proofs.code.Names.{Count, F, First, Kept, has_cells, keeping, local}
use Rattle.pass_frames_proof.specs.Framings.{IsFraming}
use Rattle.pass_frames_proof.specs.Lines.{IsStorable}
use Rattle.pass_frames_proof.specs.Places.{Framing, plan}
use Rattle.pass_frames_proof.specs.Related.{IsKeptValue, is_coroutine}
use Rattle.pass_frames_proof.specs.Returning.{FitsResult as FitsBelow, given_value}
use Rattle.pass_frames_proof.proofs.pass_proofs.cells.rules.Keepable.{IsKeepable, blocks_tell, params_tell}
use Rattle.pass_frames_proof.proofs.pass_proofs.cells.rules.Plans.{kept_of}
use Rattle.pass_frames_proof.proofs.pass_proofs.cells.rules.ValueTypes.{types_seen}
use Rattle.pass_frames_proof.proofs.rule_laws.rules.counted.Types.{is_cell_type}
use Rattle.pass_frames_proof.specs.rule_values.Kinds.{kind_of, value_kind}
use Rattle.pass_frames_proof.specs.rule_values.declared.kinds.Kind.{Kind}
use Rattle.pass_renewed_meaning.specs.run_hooks.Hooks.{hooked_context}
use Rattle.pass_renewed_meaning.specs.run_hooks.Meanings.{renewed_hooks}
use Rattle.pass_frames_proof.specs.run_memory.declared.pointer.Value.{Value}
use Rattle.pass_frames_proof.specs.run_source.State.{function_of, work_of}
use Rattle.pass_frames_proof.specs.run_source.declared.state.Activation.{Activation}
use Rattle.pass_frames_proof.specs.run_source.declared.state.State.{State}
use Rattle.pass_frames_proof.specs.run_step.Step.{AtTerm, fetch}
use Rattle.pass_frames_proof.specs.run_step.Values.{is_word_of, value_in, value_of}
use Rattle.pass_renewed_meaning.proofs.run_types.Ordinary.{action_fine as fine_action}
use Rattle.pass_renewed_meaning.specs.run_types.Fitting.{FitsKind, FitsResult, FitsType}
use Rattle.pass_renewed_meaning.specs.run_types.States.{AreFittingBelow, IsFittingState}

-- ---- values

less_to : (a b : ℕ) → a < b → nat_lt a b ≡ true
less_to a b e = grind arith

word_is : (w : ℕ) (x : Word) → x.width ≡ w → x.bits < 2 ^ w → is_word_of w x ≡ true
word_is w x width below = and_from (x.width == w) (nat_lt x.bits (2 ^ w))
    (subst (λ (n : ℕ). (x.width == n) ≡ true) width (itself x.width)) (less_to x.bits (2 ^ w) below)

if_true : {A : Type 0} (b : Bool) (x y : A) → b ≡ true → (if b then x else y) ≡ x
if_true true x y e = refl
if_true false x y e = absurd (cc)

pub storable : (ty : Ty) (v : Value) → is_cell_type ty ≡ true → FitsType ty v → PointsBy ty v → IsStorable ty v
storable (int w) Value.Poison cell fits points = refl
storable (int w) (Value.Int x) cell fits points =
    ap value_of (if_true (is_word_of w x) _ _ (word_is w x fits.width fits.below))
storable (int w) (Value.Ptr p) cell fits points = absurd fits
storable ptr Value.Poison cell fits points = refl
storable ptr (Value.Int x) cell fits points = absurd points
storable ptr (Value.Ptr p) cell fits points = refl
storable token v cell fits points = absurd (cc)
storable (array n t) v cell fits points = absurd (cc)
storable (structure ts) v cell fits points = absurd (cc)
storable (named n) v cell fits points = absurd (cc)

-- ---- what is kept

kept_ty : (cell field : ℕ) (t : Ty) (o slot : Option ℕ) → (kept_value cell field t o slot).ty ≡ t
kept_ty cell field t None slot = refl
kept_ty cell field t (Some d) slot = refl

-- its type is of its name's kind
kept_kind : (x : Framing) (is : IsFraming x) (r : ℕ) (k : KeptValue) → IsKeptValue x r k
    → value_kind (F x is) r ≡ Some (kind_of k.ty)
kept_kind x is r k kept =
    let slots : List (Option ℕ) = slots_of (local x is) (bases_of (F x is)) in
    let types : List Ty = value_types (F x is) (Kept x is) in
    let y = kept_of (First x is) (Count x is) types (plan x).cells slots (Kept x is).values kept.number k kept.there in
    let at : slice_get (Kept x is).values kept.number ≡ Some r = (keeping x is).there r kept.number kept.told in
    let seen : value_kind (F x is) r ≡ Some (kind_of (type_at types kept.number)) =
    types_seen (F x is) (First x is) (IsKeepable x.code (F x is)) (Kept x is) (keeping x is)
    (params_tell x.code is.position (F x is) is.frameable.rules x.contents.crossing (local x is) is.frameable.cells)
    (blocks_tell x.code is.position (F x is) is.frameable.rules x.contents.crossing (local x is) is.frameable.cells)
    r ((keeping x is).holds r kept.number at).defined kept.number kept.told in
    let same : k.ty ≡ type_at types kept.number = ap (λ (z : KeptValue). z.ty) y.2
    ∙ kept_ty _ _ (type_at types kept.number) (entry (plan x).cells y.0) (entry slots y.0) in
    seen ∙ ap (λ (t : Ty). Some (kind_of t)) (sym same)

-- what fits the kind of a kept name may be stored
kept_storable : (x : Framing) (is : IsFraming x) (f : Function) → f ≡ F x is → (r : ℕ) (k : KeptValue)
    → IsKeptValue x r k → (v : Value) → FitsKind (value_kind f r) v → PointsAs (value_kind f r) v → IsStorable k.ty v
kept_storable x is f e r k kept v fits points =
    let same : value_kind f r ≡ Some (kind_of k.ty) = ap (λ (g : Function). value_kind g r) e
    ∙ kept_kind x is r k kept in
    storable k.ty v (has_cells x is kept.number k kept.there).ty (subst (λ (o : Option Kind). FitsKind o v) same fits)
    (subst (λ (o : Option Kind). PointsAs o v) same points)

pub storables : (c : Setting) → KeepsAll c → (s : State) → IsFittingState c.g.given.code s
    → IsPointingState c.g.given.code s → HasStorables c s
storables c k s fitting pointing coroutine r kept is_kept =
    kept_storable (c.b.framing s.top.func) (k.given.framings s.top.func coroutine)
    (function_at c.g.given.code s.top.func) (k.given.coroutines s.top.func coroutine) r kept is_kept
    (value_in s.top.values r) (fitting.top r) (pointing.top r)

-- ---- what a coroutine below is given

pub results_stored : (c : Setting) → KeepsAll c → (s : State) → IsFittingState c.g.given.code s
    → IsPointingState c.g.given.code s → (a : Activation) (more : List Activation) (arg : Option Arg)
    → s.below ≡ a ∷ more → fetch (function_of c.g.given s) s.top.block s.top.at ≡ AtTerm (Terminator.Ret arg)
    → is_coroutine c.b a.func ≡ true
    → FitsBelow (c.b.framing a.func) s.top.result (given_value c.g.given.code s.top.values arg)
results_stored c k s fitting pointing a more arg below stands coroutine q kept goes is_kept =
    kept_storable (c.b.framing a.func) (k.given.framings a.func coroutine) (function_at m a.func)
    (k.given.coroutines a.func coroutine) q kept is_kept v (fits_below.0 q goes v (fits arg stands))
    (points_below.0 q goes v (points arg stands))
  where
    m : Module
    m = c.g.given.code

    f : Function
    f = function_at c.g.given.code s.top.func

    v : Value
    v = given_value c.g.given.code s.top.values arg

    fits_below : AreFittingBelow c.g.given.code s.top.func s.top.result (a ∷ more)
    fits_below = subst (AreFittingBelow c.g.given.code s.top.func s.top.result) below fitting.below

    points_below : ArePointingBelow c.g.given.code s.top.func s.top.result (a ∷ more)
    points_below = subst (ArePointingBelow c.g.given.code s.top.func s.top.result) below pointing.below

    fits : (arg : Option Arg) → fetch f s.top.block s.top.at ≡ AtTerm (Terminator.Ret arg)
        → FitsResult f.result (given_value c.g.given.code s.top.values arg)
    fits None e = fine_action c.g.given.code f (k.types s.top.func) s.top.block s.top.at
        (hooked_context (renewed_hooks c.g) s) refl (work_of s) fitting.top fitting.memory
        (AtTerm (Terminator.Ret None)) e
    fits (Some x) e = fine_action c.g.given.code f (k.types s.top.func) s.top.block s.top.at
        (hooked_context (renewed_hooks c.g) s) refl (work_of s) fitting.top fitting.memory
        (AtTerm (Terminator.Ret (Some x))) e

    points : (arg : Option Arg) → fetch f s.top.block s.top.at ≡ AtTerm (Terminator.Ret arg)
        → PointsBack f.result (given_value c.g.given.code s.top.values arg)
    points None e = action_fine c.g.given.code f (k.types s.top.func) s.top.block s.top.at
        (hooked_context (renewed_hooks c.g) s) refl (work_of s) pointing.top (AtTerm (Terminator.Ret None)) e
    points (Some x) e = action_fine c.g.given.code f (k.types s.top.func) s.top.block s.top.at
        (hooked_context (renewed_hooks c.g) s) refl (work_of s) pointing.top (AtTerm (Terminator.Ret (Some x))) e
