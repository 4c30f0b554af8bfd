-- What is no value that may cross has no cell: allocas, and tokens that calls give.
use Rattle.std.proofs.Common.{◌≡◌, ⊎_elim, ℕ, ◌+◌, ◌<◌, ◌≤◌, Bool, true, false, List, [], ◌∷◌, length, Option, Some, None, refl, sym, ap, ◌∙◌, arith, if◌then◌else◌, ◌&&◌}
use Rattle.std.proofs.lemmas.Bool.{and_parts, false≢true}
use Rattle.std.proofs.lemmas.Option.{slice_get-map}
use Rattle.std.specs.Prelude.{not, option_map, slice_get, unwrap_or}
use Rattle.pass_frames_proof.specs.flow_solver.Paths.{IsListed}
use Rattle.pass_frames_proof.specs.frame_classes.declared.class.SlotClass.{SlotClass}
use Rattle.pass_frames_proof.proofs.ir_laws.facts.Truth.{itself}
use Rattle.pass_frames_proof.specs.ir_model.Ty.{Ty, token}
use Rattle.pass_frames_proof.specs.ir_model.declared.instr.Instr.{Instr}
use Rattle.pass_frames_proof.specs.ir_model.declared.module.Function.{Function}
use Rattle.pass_frames_proof.specs.ir_model.declared.module.Module.{Module}
use Rattle.pass_frames_proof.specs.ir_model.declared.operand.Arg.{Arg}
use Rattle.pass_frames_proof.specs.ir_model.declared.operand.Callee.{Callee}
use Rattle.pass_frames_proof.specs.ir_model.declared.operand.Intrinsic.{Intrinsic}
use Rattle.pass_frames_proof.specs.ir_model.declared.operand.Operand.{Operand}
use Rattle.pass_frames_proof.specs.ir_paths.Slots.{allocas_of}
use Rattle.pass_frames_proof.specs.pass_cells.Cells.{fetches_of}
use Rattle.pass_frames_proof.specs.pass_addresses.Placing.{is_none, slot_fetches}
use Rattle.pass_frames_proof.specs.pass_cells.Kept.{entry, joined}
use Rattle.pass_frames_proof.specs.pass_fetch.Fetching.{fetch_at, fetch_of}
use Rattle.pass_frames_proof.specs.pass_fetch.declared.fetch.Fetch.{Fetch}
use Rattle.pass_frames_meaning.proofs.coroutines.Suspends.{token_is}
use Rattle.pass_frames_proof.specs.Framings.{IsFraming}
use Rattle.pass_frames_proof.specs.ir_paths.declared.point.Point.{Point}
use Rattle.pass_frames_proof.specs.ir_paths.Windows.{instr_at}
use Rattle.pass_frames_proof.specs.Places.{Framing, edged, offsets, plan, with_copies}
use Rattle.pass_frames_proof.proofs.pass_proofs.cells.rules.Keeping.{keeping_is}
use Rattle.pass_frames_proof.proofs.pass_proofs.cells.rules.Planned.{unplaced_fetch}
use Rattle.pass_frames_proof.proofs.pass_proofs.frames.begin_order.Framed.{in_either, old_slot, slot_alloca}
use Rattle.pass_frames_proof.specs.pass_proofs.addresses.rules.Addresses.{lies_in_frame}
use Rattle.pass_frames_proof.specs.pass_proofs.frames.begin_order.Fields.{IsField, values_kept}
use Rattle.pass_frames_proof.proofs.rule_laws.frames.needed.Apart.{apart_no_value}
use Rattle.pass_frames_proof.proofs.rule_laws.rules.source_rules.Slots.{alloca_of}
use Rattle.pass_frames_proof.specs.rule_types.Signatures.{are_wanted, is_result}
use Rattle.pass_frames_proof.specs.rule_types.Wants.{intrinsic_result, is_basic, meets}
use Rattle.pass_frames_proof.specs.rule_types.declared.wants.Basic.{Basic}
use Rattle.pass_frames_proof.specs.rule_types.declared.wants.Demand.{Demand}
use Rattle.pass_frames_proof.specs.rule_types.declared.wants.Wanted.{Wanted}
use Rattle.pass_frames_proof.specs.rule_values.Fits.{fits_kind}
use Rattle.pass_frames_proof.specs.rule_values.Kinds.{result_kind, value_kind}
use Rattle.pass_frames_proof.specs.rule_values.declared.kinds.Kind.{Kind}
use Rattle.pass_frames_proof.specs.run_step.Step.{AtInstr, fetch}
use Rattle.pass_renewed_meaning.specs.run_types.Rules.{KeepsTypes}

module _ (x : Framing) (is : IsFraming x) where
  pub made_unkept : (p : Point) (v align : ℕ) (ty : Ty) → instr_at (edged x) p ≡ Some (Instr.Alloca v ty align)
      → entry (plan x).places v ≡ None
  made_unkept p v align ty there = on (entry (plan x).places v) refl
    where
      on : (o : Option ℕ) → entry (plan x).places v ≡ o → o ≡ None
      on None e = refl
      on (Some at) e =
          let h = keeping_is (length (edged x).names) (λ (u : ℕ). u ≡ v → ⊥) x.contents.crossing
          (λ q listed same. apart_no_value x.code is.position (edged x) is.frameable.rules q.0 p
          (Instr.Alloca v ty align) there (ap Some (sym same)) refl (is.frameable.cells.values q listed)) in
          absurd (h.holds v at (h.there v at e) refl)

  pub alloca_unkept : (v : ℕ) → IsListed v (allocas_of (edged x)) → entry (plan x).places v ≡ None
  alloca_unkept v l = on (entry (plan x).places v) refl
    where
      on : (o : Option ℕ) → entry (plan x).places v ≡ o → o ≡ None
      on None e = refl
      on (Some at) e =
          let a = alloca_of (edged x) v l in
          let h = keeping_is (length (edged x).names) (λ (u : ℕ). u ≡ v → ⊥) x.contents.crossing
          (λ p listed same. apart_no_value x.code is.position (edged x) is.frameable.rules p.0 a.point
          (Instr.Alloca v a.ty a.align) a.stands (ap Some (sym same)) refl (is.frameable.cells.values p listed)) in
          absurd (h.holds v at (h.there v at e) refl)

  pub alloca_unloaded : (v : ℕ) → IsListed v (allocas_of (edged x)) → fetch_of (fetches_of (plan x)) (Operand.Local v) ≡ None
  alloca_unloaded v l = unplaced_fetch (plan x) v (alloca_unkept v l)

  -- ---- what lies in no frame

  abbrev names : ℕ
  names = length (with_copies x).names

  pub outside_name : (v : ℕ) → (IsListed v (allocas_of (edged x)) → ⊥) → v < length (edged x).names
      → lies_in_frame (offsets x) v ≡ false
  outside_name v none low = on (lies_in_frame (offsets x) v) refl
    where
      on : (b : Bool) → lies_in_frame (offsets x) v ≡ b → b ≡ false
      on false e = refl
      on true e = absurd (⊎_elim
          (λ old. none (slot_alloca x.code is.position x.layout x.function x.contents is.begin names is.frameable v
          SlotClass.Frame
          (old_slot x.code is.position x.layout x.function x.contents is.begin names is.frameable v old)))
          (λ (y : IsField (length (edged x).names)
          (length (values_kept (edged x) x.contents.crossing).values) v).
          let up : length (edged x).names + length (values_kept (edged x) x.contents.crossing).values ≤ v = y.low in
          absurd (omega (arith, up, low)))
          (in_either x.code is.position x.layout x.function x.contents is.begin names is.frameable v e))

-- what has no offset isn't fetched, and the other way round
pub outside_entry : (offsets : List (Option ℕ)) (v : ℕ) → lies_in_frame offsets v ≡ false → entry offsets v ≡ None
outside_entry offsets v e = on (slice_get offsets v) e
  where
    on : (o : Option (Option ℕ)) → not (is_none (unwrap_or o None)) ≡ false → joined o ≡ None
    on None h = refl
    on (Some None) h = refl
    on (Some (Some d)) h = absurd (cc)

pub unfetched_entry : (begin : ℕ) (offsets : List (Option ℕ)) (v : ℕ)
    → fetch_of (slot_fetches begin offsets) (Operand.Local v) ≡ None → entry offsets v ≡ None
unfetched_entry begin offsets v e =
    on (slice_get offsets v) (sym (ap fetch_at (slice_get-map (option_map (Fetch.Address begin)) offsets v)) ∙ e)
  where
    on : (o : Option (Option ℕ)) → fetch_at (option_map (option_map (Fetch.Address begin)) o) ≡ None → joined o ≡ None
    on None h = refl
    on (Some None) h = refl
    on (Some (Some d)) h = absurd (cc)

-- ---- operands that are no locals

pub unfetched : (t : List (Option Fetch)) (a : Operand) → ((v : ℕ) → a ≡ Operand.Local v → ⊥) → fetch_of t a ≡ None
unfetched t (Operand.Local v) none = absurd (none v refl)
unfetched t (Operand.Global n) none = refl
unfetched t (Operand.Number n) none = refl
unfetched t Operand.True none = refl
unfetched t Operand.False none = refl
unfetched t Operand.Null none = refl
unfetched t Operand.None none = refl
unfetched t Operand.Poison none = refl

-- what is demanded of an operand is a literal
pub literal_unfetched : (t : List (Option Fetch)) (d : Demand) (a : Operand) → meets d a ≡ true
    → ((v : ℕ) → meets d (Operand.Local v) ≡ false) → fetch_of t a ≡ None
literal_unfetched t d a e other = unfetched t a (λ v same. false≢true (sym (other v) ∙ ap (meets d) (sym same) ∙ e))

-- ---- tokens

-- the result of an intrinsic that gives a token is one
module _ (m : Module) (f : Function) (types : KeepsTypes m f) (block at q : ℕ) (must_tail : Bool) (ty : Option Ty)
    (x : Intrinsic) (args : List Arg)
    (there : fetch f block at ≡ AtInstr (Instr.Call (Some q) must_tail ty (Callee.Intrinsic x) args))
    (gives : intrinsic_result x ≡ Some Basic.Token) (kind : Kind)
    (kind_is : result_kind (Callee.Intrinsic x) (Some token) ≡ kind) (fits : fits_kind (Some kind) token ≡ true) where
  pub token_given : fits_kind (value_kind f q) token ≡ true
  token_given =
      on ty refl (ap (λ (o : Option Basic). is_result o ty) (sym gives)
      ∙ (and_parts (is_result (intrinsic_result x) ty) _
      (types.calls block at (Some q) must_tail ty (Callee.Intrinsic x) args there)).0)
    where
      on : (o : Option Ty) → ty ≡ o → is_result (Some Basic.Token) o ≡ true → fits_kind (value_kind f q) token ≡ true
      on None d h = absurd (cc)
      on (Some u) d h =
          ap (λ (o : Option Kind). fits_kind o token)
          (types.given block at q (Instr.Call (Some q) must_tail ty (Callee.Intrinsic x) args) kind there
          (ap (λ (b : Bool). if b then Some (result_kind (Callee.Intrinsic x) ty) else None) (itself q)
          ∙ ap (λ (o : Option Ty). Some (result_kind (Callee.Intrinsic x) o)) (d ∙ ap Some (token_is u h))
          ∙ ap Some kind_is))
          ∙ fits

-- ---- four arguments

pub record AreFour (args : List Arg) : Type 0 where
  pub first : Arg
  pub second : Arg
  pub third : Arg
  pub fourth : Arg
  pub are : args ≡ first ∷ second ∷ third ∷ fourth ∷ []

more_wanted : (w : Wanted) (ws : List Wanted) (a : Arg) (args : List Arg) → are_wanted (w ∷ ws) (a ∷ args) ≡ true
    → are_wanted ws args ≡ true
more_wanted w ws a args e = (and_parts (is_basic w.ty a.ty && meets w.value a.value) (are_wanted ws args) e).1

pub four_wanted : (u v w z : Wanted) (args : List Arg) → are_wanted (u ∷ v ∷ w ∷ z ∷ []) args ≡ true → AreFour args
four_wanted u v w z [] e = absurd (false≢true e)
four_wanted u v w z (a ∷ []) e = absurd (false≢true (more_wanted u (v ∷ w ∷ z ∷ []) a [] e))
four_wanted u v w z (a ∷ (b ∷ [])) e =
    absurd (false≢true (more_wanted v (w ∷ z ∷ []) b [] (more_wanted u (v ∷ w ∷ z ∷ []) a (b ∷ []) e)))
four_wanted u v w z (a ∷ (b ∷ (d ∷ []))) e =
    absurd (false≢true (more_wanted w (z ∷ []) d [] (more_wanted v (w ∷ z ∷ []) b (d ∷ [])
    (more_wanted u (v ∷ w ∷ z ∷ []) a (b ∷ d ∷ []) e))))
four_wanted u v w z (a ∷ (b ∷ (d ∷ (f ∷ [])))) e = record { first = a; second = b; third = d; fourth = f; are = refl }
four_wanted u v w z (a ∷ (b ∷ (d ∷ (f ∷ (g ∷ rest))))) e =
    absurd (false≢true (more_wanted z [] f (g ∷ rest) (more_wanted w (z ∷ []) d (f ∷ g ∷ rest)
    (more_wanted v (w ∷ z ∷ []) b (d ∷ f ∷ g ∷ rest) (more_wanted u (v ∷ w ∷ z ∷ []) a (b ∷ d ∷ f ∷ g ∷ rest) e)))))
