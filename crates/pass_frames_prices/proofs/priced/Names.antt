-- Names of a coroutine with written saves are those of the source, and at most those that the step factor counts.
use Rattle.std.proofs.Common.{◌≡◌, ℕ, zero, suc, ◌+◌, ◌≤◌, Bool, true, false, List, [], ◌∷◌, ◌++◌, Option, Some}
use Rattle.std.proofs.Common.{None, length, refl, ap, ◌∙◌, subst, arith}
use Rattle.std.proofs.Math.Nat.{le-max_left, le-max_right}
use Rattle.std.proofs.lemmas.List.{length-map}
use Rattle.std.specs.Prelude.{map, max, not, slice_get, if◌then◌else◌, ◌&&◌, ◌||◌}
use Rattle.pass_frames_proof.specs.frame_crossing.Values.{is_token_result}
use Rattle.pass_frames_proof.specs.ir_base.declared.outcome.Place.{Place}
use Rattle.pass_frames_proof.specs.ir_model.Calls.{first_result}
use Rattle.pass_frames_proof.specs.ir_model.Ty.{Ty, array, int, named, ptr, structure, token}
use Rattle.pass_frames_proof.specs.ir_model.declared.instr.Instr.{Instr}
use Rattle.pass_frames_proof.specs.ir_model.declared.module.Block.{Block}
use Rattle.pass_frames_proof.specs.ir_model.declared.module.Function.{Function}
use Rattle.pass_frames_proof.specs.ir_model.declared.module.Module.{Module}
use Rattle.pass_frames_proof.specs.ir_model.declared.operand.Callee.{Callee}
use Rattle.pass_frames_proof.specs.ir_model.declared.operand.Intrinsic.{Intrinsic}
use Rattle.pass_frames_proof.specs.ir_parts.Parts.{OfInstr, instr_place, parts_of}
use Rattle.pass_frames_proof.specs.pass_early.BeginName.{if_unnamed, named_block, named_instr, with_begin_name}
use Rattle.pass_frames_proof.specs.pass_early.Early.{after_instrs, after_one, early_blocks, early_function, early_instrs, early_named}
use Rattle.pass_frames_proof.specs.pass_early.Early.{early_one, is_none, save_call, saved}
use Rattle.pass_frames_proof.specs.pass_early.Renaming.{renamed_instr, renamed_phi}
use Rattle.pass_frames_proof.specs.pass_early.declared.renaming.Renaming.{Renaming}
use Rattle.pass_frames_prices.specs.Numbers.{most_names, name_of_instr, names_of, names_of_blocks, names_of_instrs}
use Rattle.pass_frames_proof.proofs.rule_laws.rules.path_rules.Holding.{of_parts}
use Rattle.pass_frames_proof.proofs.rule_laws.rules.renamed.Switches.{none_part}
use Rattle.pass_frames_proof.specs.rule_types.Signatures.{are_wanted, calls_otherwise, first_otherwise, is_result}
use Rattle.pass_frames_proof.specs.rule_types.Wants.{intrinsic_params, intrinsic_result}
use Rattle.pass_frames_proof.specs.run_agreement.Factor.{names_of_blocks as counted_blocks, names_of_functions}
use Rattle.pass_frames_proof.specs.run_agreement.Factor.{names_of_instr as counted, names_of_instrs as counted_instrs}

abbrev unless_one : Bool → ℕ
unless_one b = if b then 0 else 1

or_true : (b : Bool) → unless_one (b || true) ≡ 0
or_true true = refl
or_true false = refl

padded : (n : ℕ) → 0 + (n + 0) ≡ n
padded n = omega arith

one : (n : ℕ) → n + 0 ≡ n
one n = omega arith

names_append : (is js : List Instr) → names_of_instrs (is ++ js) ≡ names_of_instrs is + names_of_instrs js
names_append [] js = omega arith
names_append (i ∷ is) js = let a = names_append is js in omega (arith, a)

-- ---- one instruction

-- begin's name isn't counted
named_name : (n : ℕ) (i : Instr) → name_of_instr (named_instr n i) ≡ name_of_instr i
named_name n (Instr.Call None must_tail ty (Callee.Intrinsic Intrinsic.CoroBegin) args) =
    or_true (is_token_result ty)
named_name n (Instr.Call (Some v) must_tail ty (Callee.Intrinsic Intrinsic.CoroBegin) args) = refl
named_name n _ = refl

renamed_name : (r : Renaming) (i : Instr) → name_of_instr (renamed_instr r i) ≡ name_of_instr i
renamed_name r (Instr.Call None must_tail ty callee args) = refl
renamed_name r (Instr.Call (Some v) must_tail ty (Callee.Named n) args) = refl
renamed_name r (Instr.Call (Some v) must_tail ty (Callee.Allocator a) args) = refl
renamed_name r (Instr.Call (Some v) must_tail ty (Callee.Intrinsic i) args) = refl
renamed_name r (Instr.Call (Some v) must_tail ty (Callee.Local n) args) = refl
renamed_name r _ = refl

-- a save gives a token
saved_name : (n : ℕ) (i : Instr) → name_of_instr (saved n i) ≡ name_of_instr i → (b : Bool)
    → names_of_instrs (if b then save_call n ∷ saved n i ∷ [] else i ∷ []) ≡ name_of_instr i
saved_name n i e true = padded (name_of_instr (saved n i)) ∙ e
saved_name n i e false = one (name_of_instr i)

early_name : (n : ℕ) (i : Instr) → names_of_instrs (early_one n i) ≡ name_of_instr i
early_name n (Instr.Call None must_tail ty (Callee.Intrinsic Intrinsic.CoroSuspend) (a ∷ args)) = on (is_none a.value)
  where
    on : (b : Bool) → names_of_instrs (if b then save_call n
        ∷ saved n (Instr.Call None must_tail ty (Callee.Intrinsic Intrinsic.CoroSuspend) (a ∷ args)) ∷ []
        else Instr.Call None must_tail ty (Callee.Intrinsic Intrinsic.CoroSuspend) (a ∷ args) ∷ []) ≡ 0
    on true = refl
    on false = refl
early_name n (Instr.Call (Some v) must_tail ty (Callee.Intrinsic Intrinsic.CoroSuspend) (a ∷ args)) =
    saved_name n (Instr.Call (Some v) must_tail ty (Callee.Intrinsic Intrinsic.CoroSuspend) (a ∷ args)) refl
    (is_none a.value)
early_name n i = one (name_of_instr i)

-- ---- blocks

early_names : (r : Renaming) (n : ℕ) (is : List Instr) → names_of_instrs (early_instrs r n is) ≡ names_of_instrs is
early_names r n [] = refl
early_names r n (i ∷ is) =
    let j : Instr = renamed_instr r i in
    let a = names_append (early_one n j) (early_instrs r (after_one n j) is) in
    let b = early_name n j in
    let c = renamed_name r i in
    let d = early_names r (after_one n j) is in
    omega (arith, a, b, c, d)

early_counted : (r : Renaming) (n : ℕ) (bs : List Block) → names_of_blocks (early_blocks r n bs) ≡ names_of_blocks bs
early_counted r n [] = refl
early_counted r n (b ∷ bs) =
    let a = early_names r n b.instrs in
    let c = length-map b.phis (renamed_phi r) in
    let d = early_counted r (after_instrs r n b.instrs) bs in
    omega (arith, a, c, d)

named_names : (n : ℕ) (is : List Instr) → names_of_instrs (map (named_instr n) is) ≡ names_of_instrs is
named_names n [] = refl
named_names n (i ∷ is) =
    let a = named_name n i in
    let b = named_names n is in
    omega (arith, a, b)

named_counted : (n : ℕ) (bs : List Block) → names_of_blocks (map (named_block n) bs) ≡ names_of_blocks bs
named_counted n [] = refl
named_counted n (b ∷ bs) =
    let a = named_names n b.instrs in
    let c = named_counted n bs in
    omega (arith, a, c)

-- ---- functions

begin_counted : (f : Function) → names_of (with_begin_name f) ≡ names_of f
begin_counted f = on (first_result Intrinsic.CoroBegin f)
  where
    on : (o : Option ℕ) → names_of (if_unnamed o f) ≡ names_of f
    on None = ap (λ (n : ℕ). length f.params + n) (named_counted (length f.names) f.blocks)
    on (Some n) = refl

pub early_function_names : (f : Function) → names_of (early_function f) ≡ names_of f
early_function_names f = on f.coroutine
  where
    on : (b : Bool) → names_of (if b then early_named (with_begin_name f) else f) ≡ names_of f
    on false = refl
    on true =
        ap (λ (n : ℕ). length (with_begin_name f).params + n)
        (early_counted _ (length (with_begin_name f).names) (with_begin_name f).blocks)
        ∙ begin_counted f

-- ---- what the step factor counts

few : (b : Bool) → (if b then 0 else 1) ≤ 1
few true = omega arith
few false = omega arith

none : (b c : Bool) → b ≡ true → (if b || c then 0 else 1) ≤ 0
none true c e = omega arith
none false c e = absurd (cc)

fits_first : (a b : Bool) → not (a && b) ≡ false → a ≡ true
fits_first true b e = refl
fits_first false b e = absurd (cc)

module _ (m : Module) where
  id_token : (ty : Option Ty) → is_result (intrinsic_result Intrinsic.CoroId) ty ≡ true → is_token_result ty ≡ true
  id_token None e = absurd (cc)
  id_token (Some token) e = refl
  id_token (Some (int n)) e = absurd (cc)
  id_token (Some ptr) e = absurd (cc)
  id_token (Some (array n t)) e = absurd (cc)
  id_token (Some (structure ts)) e = absurd (cc)
  id_token (Some (named n)) e = absurd (cc)

  -- an instruction of which the rule holds
  abbrev IsRight : Instr → Type 0
  IsRight (Instr.Call (Some v) must_tail ty (Callee.Intrinsic Intrinsic.CoroId) args) =
      not (is_result (intrinsic_result Intrinsic.CoroId) ty && are_wanted (intrinsic_params Intrinsic.CoroId) args)
      ≡ false
  IsRight (Instr.Call (Some v) must_tail ty (Callee.Intrinsic Intrinsic.CoroSave) args) =
      not (is_result (intrinsic_result Intrinsic.CoroSave) ty && are_wanted (intrinsic_params Intrinsic.CoroSave) args)
      ≡ false
  IsRight _ = Unit {0}

  counted_one : (i : Instr) → IsRight i → name_of_instr i ≤ counted i
  counted_one (Instr.Call None must_tail ty callee args) h = omega arith
  counted_one (Instr.Call (Some v) must_tail ty (Callee.Intrinsic Intrinsic.CoroId) args) h =
      none (is_token_result ty) _ (id_token ty (fits_first _ _ h))
  counted_one (Instr.Call (Some v) must_tail ty (Callee.Intrinsic Intrinsic.CoroSave) args) h =
      none (is_token_result ty) _ (id_token ty (fits_first _ _ h))
  counted_one (Instr.Call (Some v) must_tail ty callee args) h = few _
  counted_one (Instr.Store arg address align) h = omega arith
  counted_one _ h = omega arith

  module _ (place : Place) where
    right : (i : Instr) → calls_otherwise m place (OfInstr i) ≡ false → IsRight i
    right (Instr.Call (Some v) must_tail ty (Callee.Intrinsic Intrinsic.CoroId) args) h = h
    right (Instr.Call (Some v) must_tail ty (Callee.Intrinsic Intrinsic.CoroSave) args) h = h
    right _ h = tt

  counted_all : (is : List Instr) → ((k : ℕ) (i : Instr) → slice_get is k ≡ Some i → IsRight i)
      → names_of_instrs is ≤ counted_instrs is
  counted_all [] h = omega arith
  counted_all (i ∷ is) h =
      let a = counted_one i (h 0 i refl) in
      let b = counted_all is (λ k j e. h (suc k) j e) in
      omega (arith, a, b)

  counted_each : (bs : List Block) → ((k at : ℕ) (b : Block) (i : Instr) → slice_get bs k ≡ Some b
      → slice_get b.instrs at ≡ Some i → IsRight i)
      → names_of_blocks bs ≤ counted_blocks bs
  counted_each [] h = omega arith
  counted_each (b ∷ bs) h =
      let a = counted_all b.instrs (λ at i e. h 0 at b i refl e) in
      let c = counted_each bs (λ k at d i e n. h (suc k) at d i e n) in
      omega (arith, a, c)

  pub names_counted : (k : ℕ) (f : Function) → first_otherwise m k f ≡ None
      → names_of f ≤ length f.params + counted_blocks f.blocks
  names_counted k f e =
      let parts = of_parts (λ y. calls_otherwise m y.0 y.1 ≡ false) k f
      (none_part (calls_otherwise m) (parts_of k f) e) in
      let a = counted_each f.blocks
      (λ j at b i got there. right (instr_place k j (length b.phis + at)) i
      ((parts.blocks j b got).instrs at i there)) in
      omega (arith, a)

-- ---- of all functions

pub names_in : (fs : List Function) (k : ℕ) (f : Function) → slice_get fs k ≡ Some f → names_of f ≤ most_names fs
names_in [] k f e = absurd (cc)
names_in (g ∷ fs) zero f e =
    let same : g ≡ f = cc in
    let a = le-max_left (names_of g) (most_names fs) in
    subst (λ (h : Function). names_of h ≤ most_names (g ∷ fs)) same a
names_in (g ∷ fs) (suc k) f e =
    let a = names_in fs k f e in
    let b = le-max_right (names_of g) (most_names fs) in
    omega (arith, a, b)

most_low : (a b c n : ℕ) → a ≤ c → b ≤ n → max a b ≤ c + n
most_low a b c n h k = omega (arith, h, k)

pub most_counted : (fs : List Function) → ((k : ℕ) (f : Function) → slice_get fs k ≡ Some f
    → names_of f ≤ length f.params + counted_blocks f.blocks)
    → most_names fs ≤ names_of_functions fs
most_counted [] h = omega arith
most_counted (f ∷ fs) h =
    most_low (names_of f) (most_names fs) (length f.params + counted_blocks f.blocks) (names_of_functions fs)
    (h 0 f refl) (most_counted fs (λ k g e. h (suc k) g e))
