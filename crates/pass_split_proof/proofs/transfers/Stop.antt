-- The switch of a suspend takes the stop edge, which leads to the end's block.
use Rattle.std.proofs.Common.{◌≡◌, ℕ, ◌≤◌, Bool, true, false, List, [], ◌∷◌, Option, None, Some, refl, sym, ap, ◌∙◌, subst, ⊎_elim, arith, if◌then◌else◌}
use Rattle.std.specs.Prelude.{negsuc, pos, slice_get, option_map, ◌&&◌, ◌%◌, ◌^◌}
use Rattle.std.proofs.Math.Nat.{mod-le}
use Rattle.std.proofs.lemmas.Bool.{and_parts, eqb-true, ne_eqb, or_cases}
use Rattle.pass_proofs.specs.frame_layout.declared.layout.Layout.{Layout}
use Rattle.pass_proofs.specs.ir_model.Names.{declaration_named, function_named, global_named, position_of}
use Rattle.pass_proofs.specs.ir_model.Ty.{Ty, int}
use Rattle.pass_proofs.specs.ir_model.declared.instr.Case.{Case}
use Rattle.pass_proofs.specs.ir_model.declared.module.Block.{Block}
use Rattle.pass_proofs.specs.ir_model.declared.module.Function.{Function}
use Rattle.pass_proofs.specs.ir_model.declared.module.Module.{Module}
use Rattle.pass_proofs.specs.ir_model.declared.operand.Arg.{Arg}
use Rattle.pass_proofs.specs.ir_model.declared.operand.Operand.{Operand}
use Rattle.pass_proofs.specs.ir_paths.Windows.{end_block, is_number}
use Rattle.pass_proofs.specs.pass_intrinsics.Shapes.{shape_of}
use Rattle.pass_proofs.proofs.split.edges.Rules.{end_is, the_end}
use Rattle.pass_proofs.specs.split.rules.Splittable.{IsSplittable}
use Rattle.pass_proofs.proofs.rule_laws.frames.edges.Shaped.{same_end}
use Rattle.pass_proofs.proofs.rule_laws.rules.source_rules.Locals.{own_label}
use Rattle.pass_proofs.specs.rule_shape.Switches.{are_both, end_label as switch_end}
use Rattle.pass_proofs.specs.run_ints.Numbers.{word_of}
use Rattle.pass_proofs.specs.run_memory.declared.pointer.Value.{Value}
use Rattle.pass_proofs.specs.run_step.Step.{GoTo, is_word, switch, target_of}
use Rattle.pass_proofs.specs.run_step.Values.{Env, address_from, arg_value, integer, literal, operand_value}
use Rattle.pass_proofs.specs.ir_base.declared.outcome.Word.{Word}

-- ---- the value of a suspend is neither 0 nor 1

-- numbers up to 1 are another one, in each width
small_literal : (ty : Ty) (n : ℕ) → n ≤ 1 → is_word (word_of 8 (negsuc 0)) (literal ty (pos n)) ≡ false
small_literal (int w) n le = ne_eqb 255 (n % 2 ^ w) (λ e. other (n % 2 ^ w) n e (mod-le n (2 ^ w)) le)
  where
    other : (a n : ℕ) → 255 ≡ a → a ≤ n → n ≤ 1 → ⊥
    other a n e le one = omega arith
small_literal _ n le = refl

small_number : (m : Module) (ty : Ty) (k : ℕ) (x : Operand) → k ≤ 1 → is_number k x ≡ true
    → is_word (word_of 8 (negsuc 0)) (operand_value m [] ty x) ≡ false
small_number m ty k (Operand.Number (pos n)) le e = small_literal ty n (subst (λ (a : ℕ). a ≤ 1) (eqb-true k n e) le)
small_number m ty k _ le e = absurd (cc)

case_missed : (m : Module) (k : ℕ) (c : Case) → k ≤ 1 → is_number k c.arg.value ≡ true
    → is_word (word_of 8 (negsuc 0)) (arg_value m [] c.arg) ≡ false
case_missed m k c le e = small_number m c.arg.ty k c.arg.value le e

both_missed : (m : Module) (default : ℕ) (a b : Case) → is_word (word_of 8 (negsuc 0)) (arg_value m [] a.arg) ≡ false
    → is_word (word_of 8 (negsuc 0)) (arg_value m [] b.arg) ≡ false
    → target_of m (word_of 8 (negsuc 0)) default (a ∷ b ∷ []) ≡ default
both_missed m default a b e h =
    ap (λ (t : Bool). if t then a.target else target_of m (word_of 8 (negsuc 0)) default (b ∷ [])) e
    ∙ ap (λ (t : Bool). if t then b.target else default) h

-- so the switch goes to its default
pub stops_at : (m : Module) (default : ℕ) (cases : List Case) → are_both cases ≡ true
    → target_of m (word_of 8 (negsuc 0)) default cases ≡ default
stops_at m default (a ∷ b ∷ []) e = ⊎_elim
    (λ h. let p = and_parts (is_number 0 a.arg.value) (is_number 1 b.arg.value) h in
    both_missed m default a b (case_missed m 0 a (omega arith) p.0) (case_missed m 1 b (omega arith) p.1))
    (λ h. let p = and_parts (is_number 1 a.arg.value) (is_number 0 b.arg.value) h in
    both_missed m default a b (case_missed m 1 a (omega arith) p.0) (case_missed m 0 b (omega arith) p.1))
    (or_cases (is_number 0 a.arg.value && is_number 1 b.arg.value)
    (is_number 1 a.arg.value && is_number 0 b.arg.value) e)
stops_at m default [] e = absurd (cc)
stops_at m default (a ∷ []) e = absurd (cc)
stops_at m default (a ∷ b ∷ c ∷ cases) e = absurd (cc)

-- ---- a number is the same in each module

address_no_number : (m : Module) (f g d : Option ℕ) (x : Word) → address_from m f g d ≡ Value.Int x → ⊥
address_no_number m (Some f) g d x e = cc
address_no_number m None (Some g) d x e = cc
address_no_number m None None (Some d) x e = cc
address_no_number m None None None x e = cc

pub same_number : (m n : Module) (env : Env) (ty : Ty) (x : Operand) (w : Word)
    → operand_value m env ty x ≡ Value.Int w
    → operand_value n env ty x ≡ Value.Int w
same_number m n env ty (Operand.Global name) w e
    = absurd (address_no_number m (function_named m name) (global_named m name) (declaration_named m name) w e)
same_number m n env ty _ w e = e

pub switch_stops : (m n : Module) (env : Env) (arg : Arg) (default : ℕ) (cases : List Case)
    → arg_value n env arg ≡ integer 8 (negsuc 0) → are_both cases ≡ true
    → switch m (arg_value m env arg) default cases ≡ GoTo default
switch_stops m n env arg default cases value both =
    ap (λ (v : Value). switch m v default cases)
    (same_number n m env arg.ty arg.value (word_of 8 (negsuc 0)) value)
    ∙ ap GoTo (stops_at m default cases both)

-- ---- the end's block

module _ (m : Module) (k : ℕ) (f : Function) (begin : ℕ) (x : IsSplittable m k f begin) (layout : Layout) where
  labelled : switch_end f ≡ Some (the_end m k f begin x).block.label
  labelled = same_end f.blocks ∙ (the_end m k f begin x).is

  pub at_end_block : position_of f (shape_of f layout).end ≡ end_block f
  at_end_block = ap (position_of f) (end_is m k f begin x layout)
      ∙ on (slice_get f.blocks (end_block f)) refl labelled
    where
      on : (o : Option Block) → slice_get f.blocks (end_block f) ≡ o
          → option_map (λ (b : Block). b.label) o ≡ Some (the_end m k f begin x).block.label
          → position_of f (the_end m k f begin x).block.label ≡ end_block f
      on None e h = absurd (cc)
      on (Some b) e h =
          let same : b.label ≡ (the_end m k f begin x).block.label = cc in
          ap (position_of f) (sym same) ∙ own_label k f x.rules.definitions (end_block f) b e
