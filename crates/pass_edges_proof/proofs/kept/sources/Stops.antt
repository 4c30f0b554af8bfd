-- The switch of a suspend takes -1 to the end, which stands first in its block (rules K2 and K3).
use Rattle.std.proofs.Common.{◌≡◌, ◌≤◌, ℕ, ◌+◌, ◌^◌, ◌%◌, Bool, true, false, List, [], ◌∷◌, Option, Some, None}
use Rattle.std.proofs.Common.{negsuc, pos, refl, sym, ap, ◌∙◌, subst, arith, if◌then◌else◌}
use Rattle.std.proofs.Math.Nat.{mod-le}
use Rattle.std.specs.Prelude.{slice_get, ◌==◌, ◌&&◌, ◌||◌, option_map}
use Rattle.pass_early_proof.proofs.ir_laws.facts.Truth.{and_first, and_second, equal_numbers}
use Rattle.pass_early_proof.specs.ir_laws.facts.renamed.Regular.{passes}
use Rattle.ir_model.specs.Names.{is_local, position_of}
use Rattle.ir_model.specs.Ty.{Ty, array, int, named, ptr, structure, token}
use Rattle.ir_model.specs.declared.instr.Case.{Case}
use Rattle.ir_model.specs.declared.instr.Instr.{Instr}
use Rattle.ir_model.specs.declared.instr.Terminator.{Terminator}
use Rattle.ir_model.specs.declared.module.Block.{Block}
use Rattle.ir_model.specs.declared.module.Function.{Function}
use Rattle.ir_model.specs.declared.module.Module.{Module}
use Rattle.ir_model.specs.declared.operand.Arg.{Arg}
use Rattle.ir_model.specs.declared.operand.Intrinsic.{Intrinsic}
use Rattle.ir_model.specs.declared.operand.Operand.{Operand}
use Rattle.pass_early_proof.specs.ir_parts.Locals.{locals_of}
use Rattle.pass_early_proof.specs.ir_paths.Paths.{entry_point}
use Rattle.pass_early_proof.specs.ir_paths.Windows.{call_result, end_block, instr_at, is_call_of, is_number}
use Rattle.pass_early_proof.specs.ir_paths.declared.point.Point.{Point}
use Rattle.pass_kept_proof.specs.SuspendRules.{IsCallAt}
use Rattle.pass_early_proof.proofs.early.save_simulation.Suspending.{fetch_at}
use Rattle.pass_edges_proof.proofs.kept.sources.Suspends.{behind_last, own, where_it_is}
use Rattle.pass_early_proof.proofs.rule_laws.rules.source_rules.Ends.{end_first}
use Rattle.pass_early_proof.proofs.rule_laws.rules.source_rules.Locals.{own_label}
use Rattle.pass_early_proof.specs.rule_names.Definitions.{first_twice}
use Rattle.pass_early_proof.specs.rule_shape.OneOfEach.{wrong_call}
use Rattle.pass_early_proof.specs.rule_shape.Places.{is_the}
use Rattle.pass_early_proof.specs.rule_shape.Switches.{are_both, end_label, is_switch_on, wrong_switch}
use Rattle.pass_early_proof.specs.run_ints.Numbers.{word_of}
use Rattle.pass_early_proof.specs.run_step.Step.{AtInstr, AtTerm, fetch, is_word, target_of}
use Rattle.pass_early_proof.specs.run_step.Values.{arg_value, operand_value}

-- ---- the cases

-- a word that an operand which is a number up to 1 isn't
module _ (m : Module) (n : ℕ) (small : n ≤ 1) where
  not_bits : (w : ℕ) → (255 == n % 2 ^ w) ≡ false
  not_bits w = on (255 == n % 2 ^ w) refl
    where
      on : (t : Bool) → (255 == n % 2 ^ w) ≡ t → t ≡ false
      on false e = refl
      on true e =
          let same : 255 ≡ n % 2 ^ w = equal_numbers 255 (n % 2 ^ w) e in
          let less = mod-le n (2 ^ w) in
          absurd (omega (arith, same, less, small))

  not_number : (ty : Ty) → is_word (word_of 8 (negsuc 0)) (operand_value m [] ty (Operand.Number (pos n))) ≡ false
  not_number (int w) = not_bits w
  not_number ptr = refl
  not_number token = refl
  not_number (array k t) = refl
  not_number (structure ts) = refl
  not_number (named k) = refl

  not_word : (ty : Ty) (o : Operand) → is_number n o ≡ true
      → is_word (word_of 8 (negsuc 0)) (operand_value m [] ty o) ≡ false
  not_word ty (Operand.Number (pos k)) e =
      ap (λ (j : ℕ). is_word (word_of 8 (negsuc 0)) (operand_value m [] ty (Operand.Number (pos j))))
      (sym (equal_numbers n k e)) ∙ not_number ty
  not_word ty (Operand.Number (negsuc k)) e = absurd (cc)
  not_word ty (Operand.Local k) e = absurd (cc)
  not_word ty (Operand.Global k) e = absurd (cc)
  not_word ty Operand.True e = absurd (cc)
  not_word ty Operand.False e = absurd (cc)
  not_word ty Operand.Null e = absurd (cc)
  not_word ty Operand.None e = absurd (cc)
  not_word ty Operand.Poison e = absurd (cc)

-- of the cases 0 and 1 none is for -1
pub none_for_stop : (m : Module) (default : ℕ) (cases : List Case) → are_both cases ≡ true
    → target_of m (word_of 8 (negsuc 0)) default cases ≡ default
none_for_stop m default [] e = absurd (cc)
none_for_stop m default (a ∷ []) e = absurd (cc)
none_for_stop m default (a ∷ b ∷ c ∷ rest) e = absurd (cc)
none_for_stop m default (a ∷ b ∷ []) e =
    on (is_number 0 a.arg.value && is_number 1 b.arg.value) refl e
  where
    neither : is_word (word_of 8 (negsuc 0)) (arg_value m [] a.arg) ≡ false
        → is_word (word_of 8 (negsuc 0)) (arg_value m [] b.arg) ≡ false
        → target_of m (word_of 8 (negsuc 0)) default (a ∷ b ∷ []) ≡ default
    neither x y =
        ap (λ (t : Bool). if t then a.target else target_of m (word_of 8 (negsuc 0)) default (b ∷ [])) x
        ∙ ap (λ (t : Bool). if t then b.target else default) y

    on : (t : Bool) → (is_number 0 a.arg.value && is_number 1 b.arg.value) ≡ t
        → (t || (is_number 1 a.arg.value && is_number 0 b.arg.value)) ≡ true
        → target_of m (word_of 8 (negsuc 0)) default (a ∷ b ∷ []) ≡ default
    on true et h = neither
        (not_word m 0 (omega arith) a.arg.ty a.arg.value
        (and_first (is_number 0 a.arg.value) (is_number 1 b.arg.value) et))
        (not_word m 1 (omega arith) b.arg.ty b.arg.value
        (and_second (is_number 0 a.arg.value) (is_number 1 b.arg.value) et))
    on false et h = neither
        (not_word m 1 (omega arith) a.arg.ty a.arg.value
        (and_first (is_number 1 a.arg.value) (is_number 0 b.arg.value) h))
        (not_word m 0 (omega arith) b.arg.ty b.arg.value
        (and_second (is_number 1 a.arg.value) (is_number 0 b.arg.value) h))

-- ---- a switch

-- the parts of a switch on a value
record IsOn (v : ℕ) (end : Option ℕ) (t : Terminator) : Type 0 where
  arg : Arg
  default : ℕ
  cases : List Case
  is : t ≡ Terminator.Switch arg default cases

is_on : (v : ℕ) (end : Option ℕ) (t : Terminator) → is_switch_on v end t ≡ true → IsOn v end t
is_on v end (Terminator.Switch arg default cases) e = record { arg = arg; default = default; cases = cases; is = refl }
is_on v end (Terminator.Jump label) e = absurd (cc)
is_on v end (Terminator.Branch c a b) e = absurd (cc)
is_on v end (Terminator.Ret value) e = absurd (cc)
is_on v end Terminator.Unreachable e = absurd (cc)

pub the_local : (v : ℕ) (o : Operand) → is_local v o ≡ true → o ≡ Operand.Local v
the_local v (Operand.Local n) e = ap Operand.Local (sym (equal_numbers v n e))
the_local v (Operand.Global n) e = absurd (cc)
the_local v (Operand.Number z) e = absurd (cc)
the_local v Operand.True e = absurd (cc)
the_local v Operand.False e = absurd (cc)
the_local v Operand.Null e = absurd (cc)
the_local v Operand.None e = absurd (cc)
the_local v Operand.Poison e = absurd (cc)

module _ (k : ℕ) (f : Function) (coroutine : f.coroutine ≡ true) (switches : wrong_switch k f ≡ None)
    (s : Point) (c : IsCallAt Intrinsic.CoroSuspend f s) where
  abbrev block : Block
  block = (where_it_is k f coroutine switches s c).block

  abbrev value : ℕ
  value = (own k f coroutine switches s c).value

  fetched : fetch f s.block (s.at + 1) ≡ AtTerm (where_it_is k f coroutine switches s c).block.term
  fetched = behind_last f s.block (s.at + 1) block (where_it_is k f coroutine switches s c).got
      (own k f coroutine switches s c).last

  pub has_switch : (arg : Arg) × (default : ℕ) × (cases : List Case)
      × (fetch f s.block (s.at + 1) ≡ AtTerm (Terminator.Switch arg default cases))
  has_switch =
      let x = is_on value (end_label f) block.term (own k f coroutine switches s c).switch in
      (x.arg, x.default, x.cases, fetched ∙ ap AtTerm x.is)

  module _ (arg : Arg) (default : ℕ) (cases : List Case)
      (stands : fetch f s.block (s.at + 1) ≡ AtTerm (Terminator.Switch arg default cases)) where
    its_own : is_switch_on (own k f coroutine switches s c).value (end_label f) (Terminator.Switch arg default cases)
        ≡ true
    its_own =
        let both : AtTerm block.term ≡ AtTerm (Terminator.Switch arg default cases) = sym fetched ∙ stands in
        let same : block.term ≡ Terminator.Switch arg default cases = cc in
        subst (λ (t : Terminator). is_switch_on value (end_label f) t ≡ true) same
        (own k f coroutine switches s c).switch

    rest : (are_both cases && is_the (end_label f) default) ≡ true
    rest = and_second (is_local (own k f coroutine switches s c).value arg.value)
        (are_both cases && is_the (end_label f) default) its_own

    pub on_result : (i : Instr) → fetch f s.block s.at ≡ AtInstr i
        → (n : ℕ) × (call_result i ≡ Some n) × (arg.value ≡ Operand.Local n)
    on_result i e =
        let both : AtInstr c.instr ≡ AtInstr i = sym c.stands ∙ e in
        let same : c.instr ≡ i = cc in (
          value,
          ap call_result (sym same) ∙ (own k f coroutine switches s c).result,
          the_local value arg.value (and_first (is_local value arg.value) _ its_own),
        )

    pub both_cases : are_both cases ≡ true
    both_cases = and_first (are_both cases) (is_the (end_label f) default) rest

    pub stops : (m : Module) → target_of m (word_of 8 (negsuc 0)) default cases ≡ default
    stops m = none_for_stop m default cases both_cases

    module _ (once : first_twice [] (locals_of k f) ≡ None) where
      pub at_end : position_of f default ≡ end_block f
      at_end = on (slice_get f.blocks (end_block f)) refl
          (and_second (are_both cases) (is_the (end_label f) default) rest)
        where
          on : (o : Option Block) → slice_get f.blocks (end_block f) ≡ o
              → is_the (option_map (λ (b : Block). b.label) o) default ≡ true → position_of f default ≡ end_block f
          on None e h = absurd (cc)
          on (Some b) e h =
              ap (position_of f) (sym (equal_numbers b.label default h)) ∙ own_label k f once (end_block f) b e

      module _ (calls : wrong_call k f ≡ None) where
        end_there : IsCallAt Intrinsic.CoroEnd f (record { block = end_block f; at = 0 })
        end_there = on (instr_at f (record { block = end_block f; at = 0 })) refl (end_first k f coroutine calls)
          where
            on : (o : Option Instr) → instr_at f (record { block = end_block f; at = 0 }) ≡ o
                → passes (is_call_of Intrinsic.CoroEnd) o ≡ true
                → IsCallAt Intrinsic.CoroEnd f (record { block = end_block f; at = 0 })
            on None e h = absurd (cc)
            on (Some i) e h = record {
              instr = i;
              stands = fetch_at f (record { block = end_block f; at = 0 }) i e;
              is = h;
            }

        pub is_end : IsCallAt Intrinsic.CoroEnd f (entry_point f default)
        is_end = subst (λ (b : ℕ). IsCallAt Intrinsic.CoroEnd f (record { block = b; at = 0 })) (sym at_end) end_there
