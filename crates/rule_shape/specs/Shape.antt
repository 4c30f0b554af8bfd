-- The shape of a coroutine, and the rules by which it has one.
use Rattle.std.specs.Prelude.{ℕ, Some, None, Option, unwrap_or, ◌≡◌}
use Rattle.ir_base.specs.declared.outcome.Place.{Place}
use Rattle.ir_base.specs.declared.rule.Rule.{Rule}
use Rattle.rule_windows.specs.ir_calls.Calls.{value_of_first}
use Rattle.rule_shape.specs.OneOfEach.{wrong_call}
use Rattle.rule_shape.specs.Promise.{promise_slot, wrong_promise}
use Rattle.rule_shape.specs.Suspends.{second_final, suspend_too_many, suspends_of}
use Rattle.rule_shape.specs.Switches.{wrong_switch}
use Rattle.rule_shape.specs.declared.shape.Shape.{Shape}
use Rattle.rule_shape.specs.declared.shape.Answer.{Answer}
use Rattle.ir_model.specs.Names.{function_at}
use Rattle.ir_model.specs.declared.module.Function.{Function}
use Rattle.ir_model.specs.declared.module.Module.{Module}
use Rattle.ir_model.specs.declared.operand.Intrinsic.{Intrinsic}
use Rattle.rule_windows.specs.ir_paths.Windows.{end_block}
use Rattle.rule_windows.specs.Outside.{IsFirstOutside}
use Rattle.rule_windows.specs.Windows.{IsFirstWindow}

abbrev pub shape_in : ℕ → Function → Shape
shape_in func f =
    record {
      id = unwrap_or (value_of_first Intrinsic.CoroId f) 0;
      begin = value_of_first Intrinsic.CoroBegin f;
      end_block = end_block f;
      suspends = suspends_of func f;
      promise = promise_slot f;
    }

-- a rule with its first place is the answer where it is broken; else the answer is what comes after it
abbrev pub After : Rule → Option Place → Answer → Type 0 → Type 0
After rule (Some place) a Later = a ≡ Answer.Refused rule place
After rule None a Later = Later

-- the answer by K10 and K11, and then the shape
abbrev pub EndsInShape : ℕ → Function → Answer → Type 0
EndsInShape func f a =
    After Rule.K10 (wrong_promise func f) a
    (After Rule.K11 (suspend_too_many func f) a
    (a ≡ Answer.Shape (shape_in func f)))

-- the answer by K5 and K6, and then by those
pub record GoesByPaths (func : ℕ) (f : Function) (a : Answer) : Type 0 where
  pub outside : Option Place
  pub is_outside : IsFirstOutside func f outside
  pub window : Option Place
  pub rest : After Rule.K5 outside a (IsFirstWindow func f window × After Rule.K6 window a (EndsInShape func f a))

-- the answer: the first broken rule of K2, K3, K4, K5, K6, K10 and K11 with its place, or else the shape
abbrev pub IsAnswer : ℕ → Function → Answer → Type 0
IsAnswer func f a =
    After Rule.K2 (wrong_call func f) a
    (After Rule.K3 (wrong_switch func f) a
    (After Rule.K4 (second_final func f) a
    (GoesByPaths func f a)))

abbrev pub IsAnswerOf : Module → ℕ → Answer → Type 0
IsAnswerOf m func a = IsAnswer func (function_at m func) a

-- the id of a shape is the token of the function's first id
abbrev pub HasToken : Function → Answer → Type 0
HasToken f (Answer.Shape s) = value_of_first Intrinsic.CoroId f ≡ Some s.id
HasToken f (Answer.Refused rule place) = Unit {0}
