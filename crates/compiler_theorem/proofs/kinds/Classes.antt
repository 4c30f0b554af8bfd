-- A slot that is made anew lies in no frame.
use Rattle.compiler.proofs.rule_laws.rules.named_results.Named.{locals_tabled}
use Rattle.std.proofs.Common.{◌≡◌, ◌∷◌, [], zero, suc, ◌==◌, if◌then◌else◌, subst, ⊎_elim, ℕ, ◌+◌, ◌<◌, ◌≤◌, Bool, true, false, List, length, refl, sym, ap, ◌∙◌, arith}
use Rattle.std.specs.Prelude.{IsTrue, ◌↔◌, find, map, None, Option, Some, replicate, slice_get, unwrap_or}
use Rattle.compiler.specs.frame_classes.declared.class.SlotClass.{SlotClass}
use Rattle.compiler.specs.ir_paths.Slots.{allocas_of}
use Rattle.compiler.specs.pass_cells.Kept.{flag_or_false, is_flagged}
use Rattle.compiler.specs.pass_copies.Uses.{flag_at}
use Rattle.compiler.specs.pass_frames.Tables.{class_flags, is_of}
use Rattle.pass_frames_meaning.specs.pass_frames_proof.Framings.{IsFraming}
use Rattle.pass_frames_meaning.specs.pass_frames_proof.Places.{Framing, edged, marked, offsets, with_copies}
use Rattle.compiler.proofs.pass_proofs.copies.begin_order.Marks.{none_flagged}
use Rattle.compiler.proofs.pass_proofs.frames.begin_order.Framed.{alloca_pointer, frame_alone, in_either, old_slot, pointer_low, slot_alloca}
use Rattle.compiler.proofs.pass_proofs.frames.begin_order.Tables.{IsOfClass, flagged_slot, slot_flagged}
use Rattle.compiler_theorem.proofs.theorem.Needed.{named_in, some_class, stands_at}
use Rattle.compiler_theorem.proofs.theorem.shown.Contents.{class_once}
use Rattle.compiler_theorem.specs.theorem.Anew.{IsSlotOf}
use Rattle.compiler.specs.flow_solver.Paths.{IsListed}
use Rattle.compiler.specs.frame_classes.Classes.{AreClasses, IsOf}
use Rattle.compiler.specs.frame_layout.declared.layout.Layout.{Layout}
use Rattle.compiler.proofs.ir_laws.facts.Lists.{below}
use Rattle.compiler.proofs.ir_laws.facts.Members.{at_each}
use Rattle.compiler.proofs.ir_laws.paths.begin_order.Framed.{get_listed}
use Rattle.compiler.specs.ir_laws.facts.expanded.Tokens.{IsNamedResult}
use Rattle.compiler.specs.ir_model.declared.instr.Instr.{Instr}
use Rattle.compiler.specs.ir_model.declared.module.Block.{Block}
use Rattle.compiler.specs.ir_model.declared.module.Function.{Function}
use Rattle.compiler.specs.ir_model.declared.module.Module.{Module}
use Rattle.compiler.specs.ir_paths.Windows.{instr_in}
use Rattle.compiler.proofs.pass_kept_proof.Read.{listed_by_name}
use Rattle.compiler.proofs.rule_laws.rules.source_rules.Slots.{HasAlloca, alloca_of}
use Rattle.compiler.specs.rule_laws.rules.function_rules.Kept.{KeepsFunctionRules}
use Rattle.compiler.specs.run_framed.Framed.{frame_of_layout, layout_of, no_layout}
use Rattle.compiler.specs.run_source_tables.Given.{frame_of}
use Rattle.compiler.specs.pass_proofs.addresses.rules.Addresses.{lies_in_frame}
use Rattle.compiler.specs.pass_proofs.frames.begin_order.Fields.{IsField, values_kept}

-- ---- a local slot isn't in the frame

flags_same : (flags : List Bool) (v : ℕ) → is_flagged flags v ≡ true → flag_at flags v ≡ true
flags_same flags v e = on (slice_get flags v) e
  where
    on : (o : Option Bool) → flag_or_false o ≡ true → unwrap_or o false ≡ true
    on None d = d
    on (Some b) d = d

ramp_alone : (o : Option SlotClass) → is_of SlotClass.Ramp o ≡ true → o ≡ Some SlotClass.Ramp
ramp_alone None e = absurd (cc)
ramp_alone (Some SlotClass.Ramp) e = refl
ramp_alone (Some SlotClass.Local) e = absurd (cc)
ramp_alone (Some SlotClass.Frame) e = absurd (cc)

local_alone : (o : Option SlotClass) → is_of SlotClass.Local o ≡ true → o ≡ Some SlotClass.Local
local_alone None e = absurd (cc)
local_alone (Some SlotClass.Ramp) e = absurd (cc)
local_alone (Some SlotClass.Local) e = refl
local_alone (Some SlotClass.Frame) e = absurd (cc)

module _ (x : Framing) (is : IsFraming x) where
  abbrev names : ℕ
  names = length (with_copies x).names

  abbrev First : ℕ
  First = length (edged x).names

  abbrev Count : ℕ
  Count = length (values_kept (edged x) x.contents.crossing).values

  local_class : (v : ℕ) → flag_at (class_flags x.function x.contents.classes SlotClass.Local) v ≡ true
      → IsOfClass SlotClass.Local x.contents.classes 0 (allocas_of x.function) v
  local_class v e =
      ⊎_elim (λ h. let t : true ≡ false = sym h ∙ none_flagged (length x.function.names) v in absurd (cc)) (λ y. y)
      (slot_flagged SlotClass.Local x.contents.classes 0 (allocas_of x.function)
      (replicate (length x.function.names) false) v e)

  of_class : (class : SlotClass) (v : ℕ) → (y : IsOfClass class x.contents.classes 0 (allocas_of x.function) v)
      → is_of class (slice_get x.contents.classes y.number) ≡ true
  of_class class v y =
      let n : ℕ = y.number in
      let same : 0 + n ≡ n = omega arith in
      ap (λ (j : ℕ). is_of class (slice_get x.contents.classes j)) (sym same) ∙ y.class_is

  two_classes : (v : ℕ) → IsOfClass SlotClass.Local x.contents.classes 0 (allocas_of x.function) v
      → IsOfClass SlotClass.Frame x.contents.classes 0 (allocas_of x.function) v → ⊥
  two_classes v one other =
      let told = is.frameable.contents.classes_are.each in
      let local_is = told one.number v SlotClass.Local one.slot
      (local_alone (slice_get x.contents.classes one.number) (of_class SlotClass.Local v one)) in
      let frame_is = told other.number v SlotClass.Frame other.slot
      (frame_alone (slice_get x.contents.classes other.number) (of_class SlotClass.Frame v other)) in
      local_is.1 frame_is.1

  in_frame_not : (v : ℕ) → flag_at (class_flags x.function x.contents.classes SlotClass.Local) v ≡ true → lies_in_frame (offsets x) v ≡ true → ⊥
  in_frame_not v e lies =
      let one : IsOfClass SlotClass.Local x.contents.classes 0 (allocas_of x.function) v = local_class v e in
      let low : v < First =
      pointer_low x.code is.position x.layout x.function x.contents is.begin names is.frameable v
      (alloca_pointer x.code is.position x.layout x.function x.contents is.begin names is.frameable v
      (slot_alloca x.code is.position x.layout x.function x.contents is.begin names is.frameable v SlotClass.Local
      one)) in
      ⊎_elim
      (λ old. two_classes v one
      (old_slot x.code is.position x.layout x.function x.contents is.begin names is.frameable v old))
      (λ (y : IsField (First) (Count) v).
      let up : First + Count ≤ v = y.low in absurd (omega (arith, up, low)))
      (in_either x.code is.position x.layout x.function x.contents is.begin names is.frameable v lies)

  -- what lies in the frame is a frame slot, among the names of the coroutine
  pub frame_class : (v : ℕ) → v < First → lies_in_frame (offsets x) v ≡ true → IsOf x.function v SlotClass.Frame
  frame_class v low lies =
      ⊎_elim
      (λ old.
      let y = old_slot x.code is.position x.layout x.function x.contents is.begin names is.frameable v old in
      is.frameable.contents.classes_are.each y.number v SlotClass.Frame y.slot
      (frame_alone (slice_get x.contents.classes y.number) (of_class SlotClass.Frame v y)))
      (λ (y : IsField First Count v). let up : First + Count ≤ v = y.low in absurd (omega (arith, up, low)))
      (in_either x.code is.position x.layout x.function x.contents is.begin names is.frameable v lies)

  -- a name that is flagged for the ramp is a slot of it
  pub ramp_class : (v : ℕ) → flag_at (marked x) v ≡ true → IsOf x.function v SlotClass.Ramp
  ramp_class v e = ⊎_elim
      (λ h. let t : true ≡ false = sym h ∙ none_flagged (length x.function.names) v in absurd (cc))
      (λ y. is.frameable.contents.classes_are.each y.number v SlotClass.Ramp y.slot
      (ramp_alone (slice_get x.contents.classes y.number) (of_class SlotClass.Ramp v y)))
      (slot_flagged SlotClass.Ramp x.contents.classes 0 (allocas_of x.function)
      (replicate (length x.function.names) false) v e)

  pub ramp_listed : (v : ℕ) → flag_at (marked x) v ≡ true → IsListed v (allocas_of (edged x))
  ramp_listed v e = ⊎_elim
      (λ h. let t : true ≡ false = sym h ∙ none_flagged (length x.function.names) v in absurd (cc))
      (λ y. slot_alloca x.code is.position x.layout x.function x.contents is.begin names is.frameable v SlotClass.Ramp y)
      (slot_flagged SlotClass.Ramp x.contents.classes 0 (allocas_of x.function)
      (replicate (length x.function.names) false) v e)

  -- and one that is flagged for the frame is one of the frame
  pub frame_flagged : (v : ℕ) → flag_at (class_flags x.function x.contents.classes SlotClass.Frame) v ≡ true
      → IsOf x.function v SlotClass.Frame
  frame_flagged v e = ⊎_elim
      (λ h. let t : true ≡ false = sym h ∙ none_flagged (length x.function.names) v in absurd (cc))
      (λ y. is.frameable.contents.classes_are.each y.number v SlotClass.Frame y.slot
      (frame_alone (slice_get x.contents.classes y.number) (of_class SlotClass.Frame v y)))
      (slot_flagged SlotClass.Frame x.contents.classes 0 (allocas_of x.function)
      (replicate (length x.function.names) false) v e)

  pub local_outside : (v : ℕ) → is_flagged (class_flags x.function x.contents.classes SlotClass.Local) v ≡ true
      → lies_in_frame (offsets x) v ≡ false
  local_outside v e = on (lies_in_frame (offsets x) v) refl
    where
      on : (b : Bool) → lies_in_frame (offsets x) v ≡ b → b ≡ false
      on false d = refl
      on true d = absurd (in_frame_not v (flags_same (class_flags x.function x.contents.classes SlotClass.Local) v e) d)

-- ---- the slots that are made anew

named_low : (n r : ℕ) (o : Option ℕ) → o ≡ Some r → IsNamedResult n o → r < n
named_low n r None e h = absurd (cc)
named_low n r (Some v) e h = let same : v ≡ r = cc in subst (λ (u : ℕ). u < n) same h

flagged_same : (flags : List Bool) (v : ℕ) → flag_at flags v ≡ true → is_flagged flags v ≡ true
flagged_same flags v e = on (slice_get flags v) e
  where
    on : (o : Option Bool) → unwrap_or o false ≡ true → flag_or_false o ≡ true
    on None d = d
    on (Some b) d = d

none_long : (n : ℕ) → length (replicate n false) ≡ n
none_long zero = refl
none_long (suc n) = ap suc (none_long n)

module _ (m : Module) (k : ℕ) (f : Function) (rules : KeepsFunctionRules m k f) where
  pub alloca_low : (v : ℕ) → IsListed v (allocas_of f) → v < length f.names
  alloca_low v l = on (slice_get f.blocks a.point.block) refl a.stands
    where
      a : HasAlloca f v
      a = alloca_of f v l

      on : (o : Option Block) → slice_get f.blocks a.point.block ≡ o
          → instr_in o a.point.at ≡ Some (Instr.Alloca v a.ty a.align) → v < length f.names
      on None d h = absurd (cc)
      on (Some b) d h =
          named_low (length f.names) v (Some v) refl
          (at_each _ b.instrs a.point.at (Instr.Alloca v a.ty a.align)
          (at_each _ f.blocks a.point.block b (locals_tabled k f rules.tabled).results d) h)

is_itself : (class : SlotClass) → is_of class (Some class) ≡ true
is_itself SlotClass.Ramp = refl
is_itself SlotClass.Local = refl
is_itself SlotClass.Frame = refl

module _ (x : Framing) (is : IsFraming x) (k : ℕ) (m : Module) (rules : KeepsFunctionRules m k x.function) where
  abbrev flags_local : List Bool
  flags_local = class_flags x.function x.contents.classes SlotClass.Local

  classes : AreClasses x.function x.contents.classes
  classes = is.frameable.contents.classes_are

  -- a slot of a class is flagged for it
  pub flagged_class : (class : SlotClass) (v : ℕ) → IsListed v (allocas_of x.function) → IsOf x.function v class
      → flag_at (class_flags x.function x.contents.classes class) v ≡ true
  flagged_class class v l of =
      let at = stands_at v (allocas_of x.function) l in
      let c = some_class x.contents.classes at.at (subst (λ (n : ℕ). at.at < n) (sym classes.count)
      (below (allocas_of x.function) at.at v at.there)) in
      let same : c.0 ≡ class =
      class_once x.function v c.0 class (classes.each at.at v c.0 at.there c.1) of in
      let low : v < length x.function.names = alloca_low m k x.function rules v l in
      let n : ℕ = at.at in
      let first : 0 + n ≡ n = omega arith in
      flagged_slot class x.contents.classes 0 (allocas_of x.function)
      (replicate (length x.function.names) false) at.at v at.there
      (ap (λ (j : ℕ). is_of class (slice_get x.contents.classes j)) first
      ∙ ap (is_of class) (c.1 ∙ ap Some same) ∙ is_itself class)
      (let long = none_long (length x.function.names) in omega (arith, low, long))

  flagged_local : (v : ℕ) → IsSlotOf x.function SlotClass.Local v → is_flagged flags_local v ≡ true
  flagged_local v h =
      flagged_same flags_local v
      (flagged_class SlotClass.Local v (listed_by_name (allocas_of x.function) v h.is_alloca) h.is_of)

  -- and nothing else is
  local_flagged : (v : ℕ) → is_flagged flags_local v ≡ true → x.function.coroutine ≡ true
      → IsSlotOf x.function SlotClass.Local v
  local_flagged v e coroutine =
      let y = local_class x is v (flags_same flags_local v e) in
      record {
        coroutine = coroutine;
        is_alloca = named_in v (allocas_of x.function) (get_listed (allocas_of x.function) y.number v y.slot);
        is_of = classes.each y.number v SlotClass.Local y.slot
            (local_alone (slice_get x.contents.classes y.number) (of_class x is SlotClass.Local v y));
      }

  pub local_is : (v : ℕ) (b : Bool) → x.function.coroutine ≡ true → (IsTrue b ↔ IsSlotOf x.function SlotClass.Local v)
      → b ≡ is_flagged flags_local v
  local_is v b coroutine told = on b (is_flagged flags_local v) refl refl
    where
      on : (p q : Bool) → b ≡ p → is_flagged flags_local v ≡ q → b ≡ is_flagged flags_local v
      on true true d e = d ∙ sym e
      on false false d e = d ∙ sym e
      on true false d e =
          let yes = flagged_local v (told.0 d) in
          let no : true ≡ false = sym yes ∙ e in absurd (cc)
      on false true d e =
          let yes : b ≡ true = told.1 (local_flagged v e coroutine) in
          let no : true ≡ false = sym yes ∙ d in absurd (cc)

-- ---- sizes

pub sizes_same : (ls : List Layout) (func : ℕ) → (layout_of ls func).size ≡ (frame_of (map frame_of_layout ls) func).size
sizes_same [] func = refl
sizes_same (l ∷ ls) func = on (l.coroutine == func) refl (sizes_same ls func)
  where
    on : (b : Bool) → (l.coroutine == func) ≡ b
        → (layout_of ls func).size ≡ (frame_of (map frame_of_layout ls) func).size
        → (unwrap_or (if b then Some l else find (λ (z : Layout). z.coroutine == func) ls) (no_layout func)).size
        ≡ (if b then frame_of_layout l else frame_of (map frame_of_layout ls) func).size
    on true d rest = refl
    on false d rest = rest
