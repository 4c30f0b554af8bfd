-- Operands that fit their types and name what is known are operands of the grammar and can be written.
use Rattle.std.proofs.Common.{◌≡◌, ⊎_elim, ℕ, ℤ, zero, suc, pos, negsuc, ◌*◌, ◌<◌, ◌^◌, Bool, true, false, List, [], ◌∷◌, length, refl, ap, ◌∙◌, subst, ltb-true, arith}
use Rattle.std.proofs.lemmas.Bool.{or_cases}
use Rattle.std.specs.Prelude.{None, Option, Some, if◌then◌else◌, is_some, option_map, slice_get, ◌||◌}
use Rattle.text_canonical.specs.canonical.OperandSymbols.{callee_symbol, number_symbol, operand_symbol}
use Rattle.text_canonical.specs.canonical.Written.{IsNamed, IsWritten}
use Rattle.ir_laws.specs.ir_base.declared.name.Name.{Name}
use Rattle.ir_laws.specs.text_names.Spelling.{IsName, is_name_text}
use Rattle.ir_laws.specs.ir_model.Names.{declaration_named, first_where, function_named, global_named, same_name, same_text}
use Rattle.ir_laws.specs.ir_model.Table.{all_allocators, all_intrinsics, allocator_in, allocator_word, callee_named, callee_or, intrinsic_in, intrinsic_word}
use Rattle.ir_laws.specs.ir_model.Ty.{Ty, array, int, named, ptr, structure, token}
use Rattle.ir_laws.specs.ir_model.TypeView.{bits_of}
use Rattle.ir_laws.specs.ir_model.declared.ir_type.IntWidth.{IntWidth}
use Rattle.ir_laws.specs.ir_model.declared.ir_type.IntWidth.TheVariants.{I1, I8, I16, I32, I64}
use Rattle.ir_laws.specs.ir_model.declared.module.Declaration.{Declaration}
use Rattle.ir_laws.specs.ir_model.declared.module.Function.{Function}
use Rattle.ir_laws.specs.ir_model.declared.module.GlobalItem.{GlobalItem}
use Rattle.ir_laws.specs.ir_model.declared.module.Module.{Module}
use Rattle.ir_laws.specs.ir_model.declared.operand.Allocator.{Allocator}
use Rattle.ir_laws.specs.ir_model.declared.operand.Callee.{Callee}
use Rattle.ir_laws.specs.ir_model.declared.operand.Intrinsic.{Intrinsic}
use Rattle.ir_laws.specs.ir_model.declared.operand.Operand.{Operand}
use Rattle.ir_laws.specs.facts.spelled.Named.{AreItemsNamed}
use Rattle.rule_laws.specs.texts.spelled.Spelled.{IsSpelled}
use Rattle.ir_laws.proofs.ir_tables.Tables.{same_name-same, same_text-same}
use Rattle.rule_names.specs.Known.{is_intrinsic, knows_address, knows_callee, knows_name, knows_operand}
use Rattle.ir_laws.specs.run_laws.changed.Changed.{Each}
use Rattle.rule_values.specs.Fits.{fits, fits_literal, is_literal}
use Rattle.rule_values.specs.declared.kinds.Kind.{Kind}
use Rattle.text_canonical.specs.order.Shape as shape

-- ---- names of locals

-- a name stands at the position, and can be written
pub record IsNamedAt (names : List Name) (v : ℕ) : Type 0 where
  pub placed : shape.IsPlaced names v
  pub named : IsNamed (slice_get names v)

pub named_at : (names : List Name) (v : ℕ) → v < length names → Each IsName names → IsNamedAt names v
named_at [] v low h = absurd (omega (arith, low))
named_at (x ∷ names) zero low h = record { placed = (x, refl); named = h.0 }
named_at (x ∷ names) (suc v) low h = let r = named_at names v (omega (arith, low)) h.1 in record { placed = (r.placed.0, r.placed.1); named = r.named }

-- ---- literals

literal_low : (w : IntWidth) (z : ℤ) → is_literal (bits_of w) z ≡ true → IsWritten (number_symbol z)
literal_low I1 (pos n) e = let h : n < 2 ^ 1 = ltb-true n (2 ^ 1) e in omega (arith, h)
literal_low I8 (pos n) e = let h : n < 2 ^ 8 = ltb-true n (2 ^ 8) e in omega (arith, h)
literal_low I16 (pos n) e = let h : n < 2 ^ 16 = ltb-true n (2 ^ 16) e in omega (arith, h)
literal_low I32 (pos n) e = let h : n < 2 ^ 32 = ltb-true n (2 ^ 32) e in omega (arith, h)
literal_low I64 (pos n) e = ltb-true n (2 ^ 64) e
literal_low I1 (negsuc n) e = let h : 2 * n < 2 ^ 1 = ltb-true (2 * n) (2 ^ 1) e in omega (arith, h)
literal_low I8 (negsuc n) e = let h : 2 * n < 2 ^ 8 = ltb-true (2 * n) (2 ^ 8) e in omega (arith, h)
literal_low I16 (negsuc n) e = let h : 2 * n < 2 ^ 16 = ltb-true (2 * n) (2 ^ 16) e in omega (arith, h)
literal_low I32 (negsuc n) e = let h : 2 * n < 2 ^ 32 = ltb-true (2 * n) (2 ^ 32) e in omega (arith, h)
literal_low I64 (negsuc n) e = let h : 2 * n < 2 ^ 64 = ltb-true (2 * n) (2 ^ 64) e in omega (arith, h)

literal_written : (t : Ty) (z : ℤ) → fits_literal t z ≡ true → IsSpelled t → IsWritten (number_symbol z)
literal_written (int w) z e h = literal_low h.0.0 z (subst (λ (b : ℕ). is_literal b z ≡ true) h.0.1 e)
literal_written ptr z e h = absurd (cc)
literal_written token z e h = absurd (cc)
literal_written (array n t) z e h = absurd (cc)
literal_written (structure ts) z e h = absurd (cc)
literal_written (named n) z e h = absurd (cc)

-- ---- names of items

later_found : (o : Option ℕ) → is_some (option_map suc o) ≡ true → is_some o ≡ true
later_found None e = absurd (cc)
later_found (Some k) e = refl

found_named : {A : Type 0} (name : A → Name) (xs : List A) (n : Name) → Each (λ (x : A). IsName (name x)) xs → is_some (first_where (λ (x : A). same_name (name x) n) xs) ≡ true → IsName n
found_named name [] n h e = absurd (cc)
found_named name (x ∷ xs) n h e = on (same_name (name x) n) refl e (found_named name xs n h.1)
  where
    on : (b : Bool) → same_name (name x) n ≡ b → is_some (if b then Some 0 else option_map suc (first_where (λ y. same_name (name y) n) xs)) ≡ true → (is_some (first_where (λ y. same_name (name y) n) xs) ≡ true → IsName n) → IsName n
    on true s k rest = subst IsName (same_name-same (name x) n s) h.0
    on false s k rest = rest (later_found (first_where (λ y. same_name (name y) n) xs) k)

intrinsic_spelled : (i : Intrinsic) → is_name_text (intrinsic_word i) ≡ true
intrinsic_spelled Intrinsic.CoroId = refl
intrinsic_spelled Intrinsic.CoroSizeI32 = refl
intrinsic_spelled Intrinsic.CoroSizeI64 = refl
intrinsic_spelled Intrinsic.CoroAlignI32 = refl
intrinsic_spelled Intrinsic.CoroAlignI64 = refl
intrinsic_spelled Intrinsic.CoroAlloc = refl
intrinsic_spelled Intrinsic.CoroBegin = refl
intrinsic_spelled Intrinsic.CoroFree = refl
intrinsic_spelled Intrinsic.CoroFrame = refl
intrinsic_spelled Intrinsic.CoroSave = refl
intrinsic_spelled Intrinsic.CoroSuspend = refl
intrinsic_spelled Intrinsic.CoroEnd = refl
intrinsic_spelled Intrinsic.CoroResume = refl
intrinsic_spelled Intrinsic.CoroDestroy = refl
intrinsic_spelled Intrinsic.CoroDone = refl
intrinsic_spelled Intrinsic.CoroPromise = refl
intrinsic_spelled Intrinsic.LifetimeStart = refl
intrinsic_spelled Intrinsic.LifetimeEnd = refl
intrinsic_spelled Intrinsic.MemcpyI64 = refl
intrinsic_spelled Intrinsic.MemcpyI32 = refl

allocator_spelled : (a : Allocator) → is_name_text (allocator_word a) ≡ true
allocator_spelled Allocator.Malloc = refl
allocator_spelled Allocator.Znwm = refl
allocator_spelled Allocator.Free = refl
allocator_spelled Allocator.ZdlPv = refl
allocator_spelled Allocator.ZdlPvm = refl

intrinsic_in_named : (is : List Intrinsic) (t : List ℕ) → is_some (intrinsic_in is t) ≡ true → is_name_text t ≡ true
intrinsic_in_named [] t e = absurd (cc)
intrinsic_in_named (i ∷ is) t e = on (same_text t (intrinsic_word i)) refl e (intrinsic_in_named is t)
  where
    on : (b : Bool) → same_text t (intrinsic_word i) ≡ b → is_some (if b then Some i else intrinsic_in is t) ≡ true → (is_some (intrinsic_in is t) ≡ true → is_name_text t ≡ true) → is_name_text t ≡ true
    on true s k rest = ap is_name_text (same_text-same t (intrinsic_word i) s) ∙ intrinsic_spelled i
    on false s k rest = rest k

intrinsic_name : (n : Name) → is_intrinsic (callee_named n) ≡ true → IsName n
intrinsic_name (Name.Number n) e = absurd (cc)
intrinsic_name (Name.Text t) e = intrinsic_in_named all_intrinsics t (on (intrinsic_in all_intrinsics t) (allocator_in all_allocators t) e)
  where
    on : (o : Option Intrinsic) (a : Option Allocator) → is_intrinsic (callee_or (Name.Text t) o a) ≡ true → is_some o ≡ true
    on (Some i) a k = refl
    on None (Some a) k = absurd (cc)
    on None None k = absurd (cc)

module _ (m : Module) (items : AreItemsNamed m) where
  known_named : (n : Name) → knows_name m n ≡ true → IsName n
  known_named n e =
      ⊎_elim (λ f. found_named (λ (f : Function). f.name) m.functions n items.functions f)
      (λ r. ⊎_elim (λ d. found_named (λ (d : Declaration). d.name) m.declarations n items.declarations d) (λ g. found_named (λ (g : GlobalItem). g.name) m.globals n items.globals g) (or_cases (is_some (declaration_named m n)) (is_some (global_named m n)) r))
      (or_cases (is_some (function_named m n)) (is_some (declaration_named m n) || is_some (global_named m n)) e)

  address_named : (n : Name) → knows_address m n ≡ true → IsName n
  address_named n e = ⊎_elim (λ k. known_named n k) (λ i. intrinsic_name n i) (or_cases (knows_name m n) (is_intrinsic (callee_named n)) e)

  module _ (names : List Name) (values : ℕ → Bool) (low : (v : ℕ) → values v ≡ true → IsNamedAt names v) where
    -- ---- operands

    pub operand_shaped : (x : Operand) → knows_operand m values x ≡ true → shape.IsOperand names x
    operand_shaped (Operand.Local v) e = (low v e).placed
    operand_shaped (Operand.Global n) e = tt
    operand_shaped (Operand.Number z) e = tt
    operand_shaped Operand.True e = tt
    operand_shaped Operand.False e = tt
    operand_shaped Operand.Null e = tt
    operand_shaped Operand.None e = tt
    operand_shaped Operand.Poison e = tt

    pub operand_written : (kinds : ℕ → Option Kind) (t : Ty) (x : Operand) → fits kinds t x ≡ true → IsSpelled t → knows_operand m values x ≡ true → IsWritten (operand_symbol names x)
    operand_written kinds t (Operand.Local v) f h e = (low v e).named
    operand_written kinds t (Operand.Global n) f h e = address_named n e
    operand_written kinds t (Operand.Number z) f h e = literal_written t z f h
    operand_written kinds t Operand.True f h e = tt
    operand_written kinds t Operand.False f h e = tt
    operand_written kinds t Operand.Null f h e = tt
    operand_written kinds t Operand.None f h e = tt
    operand_written kinds t Operand.Poison f h e = tt

    -- what is called
    pub callee_written : (c : Callee) → knows_callee m c ≡ true → ((v : ℕ) → c ≡ Callee.Local v → values v ≡ true) → IsWritten (callee_symbol names c)
    callee_written (Callee.Named n) e l = known_named n e
    callee_written (Callee.Allocator a) e l = allocator_spelled a
    callee_written (Callee.Intrinsic i) e l = intrinsic_spelled i
    callee_written (Callee.Local v) e l = (low v (l v refl)).named
