-- The index leads back to the suspend of its number.
use Rattle.std.proofs.Common.{◌≡◌, ◌<◌, ◌≤◌, ℕ, zero, suc, ◌+◌, Bool, true, false, List, [], ◌∷◌, ◌++◌, length, refl, sym, ap, ◌∙◌, arith}
use Rattle.std.proofs.Math.Nat.{mod-eq_of_lt}
use Rattle.std.proofs.lemmas.Bool.{leb-true}
use Rattle.std.proofs.lemmas.Option.{slice_get_within}
use Rattle.std.specs.Prelude.{Some, nat_le, pos, slice_get, if◌then◌else◌, ◌==◌, ◌%◌, ◌^◌}
use Rattle.pass_proofs.specs.frame_layout.declared.layout.Layout.{Layout}
use Rattle.pass_proofs.specs.ir_base.declared.outcome.Word.{Word}
use Rattle.pass_proofs.proofs.ir_laws.facts.Truth.{itself}
use Rattle.pass_proofs.proofs.ir_laws.facts.local_rules.Woven.{other_number}
use Rattle.pass_proofs.specs.rule_laws.frames.replaced.Parted.{IsSmall}
use Rattle.pass_proofs.specs.ir_model.Ty.{int}
use Rattle.pass_proofs.specs.ir_model.TypeView.{bits_of}
use Rattle.pass_proofs.specs.ir_model.declared.ir_type.IntWidth.{IntWidth}
use Rattle.pass_proofs.specs.ir_model.declared.module.Function.{Function}
use Rattle.pass_proofs.specs.ir_model.declared.module.Module.{Module}
use Rattle.pass_proofs.specs.pass_intrinsics.Shapes.{back_label, index_width, none_label, shape_of}
use Rattle.pass_proofs.specs.pass_intrinsics.declared.shape.Part.{Part}
use Rattle.pass_proofs.specs.pass_intrinsics.declared.shape.Shape.{Shape}
use Rattle.pass_proofs.specs.pass_intrinsics.declared.shape.SuspendPoint.{SuspendPoint}
use Rattle.pass_proofs.specs.pass_split.Parts.{case_of, cases_from, is_entered}
use Rattle.pass_proofs.specs.run_memory.declared.pointer.Value.{Value}
use Rattle.pass_proofs.specs.run_step.Step.{is_word, target_of}
use Rattle.pass_proofs.specs.run_step.Values.{literal}

-- a number's word, where it is small
word_small : (w n : ℕ) (x : Word) → n < 2 ^ w → literal (int w) (pos n) ≡ Value.Int x → x.bits ≡ n
word_small w n x low e =
    let same : Value.Int (record { width = w; bits = n % 2 ^ w }) ≡ Value.Int x = e in
    let one : record { width = w; bits = n % 2 ^ w } ≡ x = cc in
    ap (λ (y : Word). y.bits) (sym one) ∙ mod-eq_of_lt low

module _ (n : Module) (s : Shape) (flags : List Bool) (part : Part) (x : Word) where
  abbrev w : ℕ
  w = bits_of s.width

  -- the word is that of a case just where their numbers are equal
  case_word : (j : ℕ) → j < 2 ^ w → is_word x (literal (int w) (pos j)) ≡ (x.bits == j)
  case_word j low = ap (λ (b : ℕ). x.bits == b) (word_small w j (record { width = w; bits = j % 2 ^ w }) low refl)

  leads_back : (j at : ℕ) (ps : List SuspendPoint) (p : SuspendPoint) → j + length ps ≤ 2 ^ w
      → slice_get ps at ≡ Some p → is_entered flags part p ≡ true → x.bits ≡ j + at
      → target_of n x (none_label s) (cases_from s flags part j ps) ≡ back_label s (j + at)
  leads_back j at [] p low e entered is = absurd (cc)
  leads_back j zero (q ∷ ps) p low e entered is =
      let same : q ≡ p = cc in
      let none : j + 0 ≡ j = omega arith in
      let now : is_entered flags part q ≡ true = ap (is_entered flags part) same ∙ entered in
      let equal : is_word x (literal (int w) (pos j)) ≡ true = case_word j (omega (arith, low))
      ∙ ap (λ (b : ℕ). b == j) (is ∙ none) ∙ itself j in
      ap (λ (b : Bool). target_of n x (none_label s) ((if b then case_of s j ∷ [] else []) ++ cases_from s flags part
      (j + 1) ps)) now
      ∙ ap (λ (b : Bool). if b then back_label s j else target_of n x (none_label s)
      (cases_from s flags part (j + 1) ps)) equal
      ∙ ap (back_label s) (sym none)
  leads_back j (suc at) (q ∷ ps) p low e entered is =
      let same : j + suc at ≡ j + 1 + at = omega arith in
      on (is_entered flags part q) (leads_back (j + 1) at ps p (omega (arith, low)) e entered (is ∙ same))
      ∙ ap (back_label s) (sym same)
    where
      other : is_word x (literal (int w) (pos j)) ≡ false
      other = case_word j (omega (arith, low)) ∙ other_number x.bits j (λ h. omega (arith, h, is))

      on : (b : Bool) → target_of n x (none_label s) (cases_from s flags part (j + 1) ps) ≡ back_label s (j + 1 + at)
          → target_of n x (none_label s) ((if b then case_of s j ∷ [] else []) ++ cases_from s flags part (j + 1) ps) ≡
          back_label s (j + 1 + at)
      on true more = ap (λ (b : Bool). if b then back_label s j else target_of n x (none_label s)
          (cases_from s flags part (j + 1) ps)) other ∙ more
      on false more = more

-- the index is as wide as its numbers
pub wide : (n : ℕ) → n ≤ 65536 → n ≤ 2 ^ bits_of (index_width n)
wide n low = on (nat_le n 256) refl
  where
    on : (b : Bool) → nat_le n 256 ≡ b → n ≤ 2 ^ bits_of (if b then IntWidth.I8 else IntWidth.I16)
    on true e = leb-true n 256 e
    on false e = low

pub index_leads_back : (n : Module) (f : Function) (layout : Layout) (flags : List Bool) (part : Part) (j : ℕ)
    (p : SuspendPoint) (x : Word) → IsSmall (shape_of f layout) → slice_get (shape_of f layout).suspends j ≡ Some p
    → is_entered flags part p ≡ true → literal (int (bits_of (shape_of f layout).width)) (pos j) ≡ Value.Int x
    → target_of n x (none_label (shape_of f layout)) (cases_from (shape_of f layout) flags part 0
    (shape_of f layout).suspends) ≡ back_label (shape_of f layout) j
index_leads_back n f layout flags part j p x small e entered is =
    let s : Shape = shape_of f layout in
    let low : length s.suspends ≤ 2 ^ bits_of s.width = wide (length s.suspends) small.suspends in
    let within : j < length s.suspends = slice_get_within s.suspends j p e in
    let same : 0 + j ≡ j = omega arith in
    let bits : x.bits ≡ j = word_small (bits_of s.width) j x (omega (arith, low, within)) is in
    leads_back n s flags part x 0 j s.suspends p (omega (arith, low)) e entered (bits ∙ sym same)
    ∙ ap (back_label s) same
