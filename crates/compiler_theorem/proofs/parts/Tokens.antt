-- Suspends whose saves are written out, and saves with names, stay so where instructions are woven in and edges have blocks.
use Rattle.std.proofs.Common.{◌≡◌, ℕ, Bool, true, false, List, Option, refl, None}
use Rattle.std.specs.Prelude.{is_none, not, ◌&&◌}
use Rattle.compiler.specs.ir_base.declared.outcome.Place.{Place}
use Rattle.compiler.proofs.ir_laws.facts.Truth.{and_second}
use Rattle.compiler.specs.ir_laws.facts.woven_rules.Pairs.{Empty, Pair, Pairwise}
use Rattle.compiler.specs.ir_laws.facts.woven_rules.Parts.{ArgStays}
use Rattle.compiler.specs.ir_model.Ty.{Ty}
use Rattle.compiler.specs.ir_model.declared.instr.Instr.{Instr}
use Rattle.compiler.specs.ir_model.declared.module.Function.{Function}
use Rattle.compiler.specs.ir_model.declared.module.Module.{Module}
use Rattle.compiler.specs.ir_model.declared.operand.Arg.{Arg}
use Rattle.compiler.specs.ir_model.declared.operand.Callee.{Callee}
use Rattle.compiler.specs.ir_model.declared.operand.Intrinsic.{Intrinsic}
use Rattle.compiler.specs.ir_model.declared.operand.Operand.{Operand}
use Rattle.compiler.specs.ir_parts.Parts.{first_part, parts_of}
use Rattle.compiler.specs.pass_early.Early.{first_is_none, is_none as is_no_operand}
use Rattle.compiler.specs.pass_edges.EdgeBlocks.{with_edge_blocks}
use Rattle.compiler.specs.pass_exits.ExitBlocks.{with_exit_blocks}
use Rattle.compiler.specs.pass_front.Front.{with_front_allocas}
use Rattle.compiler.proofs.pass_proofs.edges.rules.Carried as edges
use Rattle.compiler.proofs.pass_proofs.exits.rules.Threaded.{moves, threaded}
use Rattle.compiler.specs.pass_proofs.edges.rules.Phis.{ArePhisEnteredByJumps}
use Rattle.compiler.proofs.rule_laws.rules.front_rules.Carried as front
use Rattle.compiler.proofs.rule_laws.rules.threaded.Carried as over
use Rattle.compiler.proofs.rule_laws.rules.woven_rules.Carried as woven
use Rattle.compiler.proofs.rule_laws.rules.woven_rules.Laid.{IsLike, KeptOne, NoPromise, Remains, Renamed, Stayed, laid}
use Rattle.compiler.proofs.rule_laws.rules.woven_rules.Once.{below}
use Rattle.compiler.specs.rule_laws.rules.function_rules.Kept.{KeepsFunctionRules}
use Rattle.compiler.specs.rule_laws.rules.woven_rules.Blocks.{IsWoven, may_stand}
use Rattle.compiler.specs.rule_laws.rules.woven_rules.Pairs.{AreIncomingOnce}
use Rattle.compiler.specs.rule_laws.rules.woven_rules.Parts.{Call, Direct, Indirect, InstrStays}
use Rattle.compiler.specs.rule_laws.rules.woven_rules.Weaving.{Weaving}
use Rattle.compiler.specs.rule_locals.Instrs.{on_instr}

-- a suspend without a save, or a save without a name
abbrev pub is_bare : Place → Instr → Bool
is_bare p (Instr.Call r must_tail ty (Callee.Intrinsic Intrinsic.CoroSuspend) args) = first_is_none args
is_bare p (Instr.Call r must_tail ty (Callee.Intrinsic Intrinsic.CoroSave) args) = is_none r
is_bare p _ = false

abbrev pub HasTokens : ℕ → Function → Type 0
HasTokens k f = first_part (on_instr is_bare) (parts_of k f) ≡ None

-- ---- where edges have blocks, and allocas stand in front

pub edges_tokens : (k : ℕ) (f : Function) → HasTokens k f → HasTokens k (with_edge_blocks f)
edges_tokens k f = edges.carried f (on_instr is_bare) (on_instr is_bare)
    (edges.on_instrs f is_bare is_bare (λ p q i alike e. e)) k

pub front_tokens : (k : ℕ) (f : Function) → HasTokens k f → HasTokens k (with_front_allocas f)
front_tokens k f = front.carried f (on_instr is_bare) (on_instr is_bare)
    (front.on_instrs f is_bare is_bare (λ p q i same e. e)) k

pub exits_tokens : (m : Module) (k : ℕ) (f : Function) → KeepsFunctionRules m k f → ArePhisEnteredByJumps f
    → HasTokens k f → HasTokens k (with_exit_blocks f)
exits_tokens m k f rules jumps = over.carried f (with_exit_blocks f) (moves f) (threaded m k f rules jumps)
    (on_instr is_bare) (on_instr is_bare)
    (over.on_instrs f (with_exit_blocks f) (moves f) is_bare is_bare (λ p q i alike e. e)) k

-- ---- where instructions are woven in

no_copy : (must_tail : Bool) → (not must_tail && false) ≡ true → ⊥
no_copy must_tail e = let no : false ≡ true = and_second (not must_tail) false e in absurd (cc)

put_tokens : (p : Place) (block : ℕ) (j : Instr) → may_stand block j ≡ true → is_bare p j ≡ false
put_tokens p block (Instr.Call r must_tail ty (Callee.Intrinsic Intrinsic.CoroSuspend) args) e =
    absurd (no_copy must_tail e)
put_tokens p block (Instr.Call r must_tail ty (Callee.Intrinsic Intrinsic.CoroSave) args) e =
    absurd (no_copy must_tail e)
put_tokens p block _ e = refl

module _ (w : Weaving) (f g : Function) where
  like_tokens : (x y : Operand) → IsLike w f g x y → is_no_operand x ≡ false → is_no_operand y ≡ false
  like_tokens _ _ (Stayed x stays) e = e
  like_tokens _ _ (Renamed v n same) e = refl

  args_tokens : (args now : List Arg) → Pairwise (ArgStays (IsLike w f g)) args now → first_is_none args ≡ false
      → first_is_none now ≡ false
  args_tokens _ _ Empty e = refl
  args_tokens _ _ (Pair a b args now s rest) e = like_tokens a.value b.value s.value e

  call_tokens : (p q : Place) (r : Option ℕ) (must_tail : Bool) (ty : Option Ty) (c : Callee) (args now : List Arg)
      → Pairwise (ArgStays (IsLike w f g)) args now → is_bare p (Instr.Call r must_tail ty c args) ≡ false
      → is_bare q (Instr.Call r must_tail ty c now) ≡ false
  call_tokens p q r must_tail ty (Callee.Intrinsic Intrinsic.CoroSuspend) args now s e = args_tokens args now s e
  call_tokens p q r must_tail ty (Callee.Intrinsic Intrinsic.CoroSave) args now s e = e
  call_tokens p q r must_tail ty _ args now s e = refl

  kept_tokens : (p q : Place) (i j : Instr) → InstrStays (IsLike w f g) i j → is_bare p i ≡ false
      → is_bare q j ≡ false
  kept_tokens p q _ _ (Call r must_tail ty _ _ args now (Direct c h) s) e = call_tokens p q r must_tail ty c args now s e
  kept_tokens p q _ _ (Call r must_tail ty _ _ args now (Indirect v n h) s) e = refl
  kept_tokens p q _ _ _ e = refl

  remain_tokens : (p q : Place) (i j : Instr) → Remains w f g i j → is_bare p i ≡ false → is_bare q j ≡ false
  remain_tokens p q _ _ (KeptOne i j s mark) e = kept_tokens p q i j s e
  remain_tokens p q _ _ (NoPromise r must_tail ty a x args h) e = refl

pub woven_tokens : (w : Weaving) (m : Module) (k : ℕ) (f g : Function) → IsWoven w m f g → KeepsFunctionRules m k f
    → AreIncomingOnce f → HasTokens k f → HasTokens k g
woven_tokens w m k f g h rules once =
    woven.carried w m f g (on_instr is_bare) (on_instr is_bare)
    (woven.on_instrs w m f g is_bare is_bare (record {
      put_one = λ block q j e s. put_tokens q block j s.stands;
      remain_one = λ p q i j same s e. remain_tokens w f g p q i j s e;
    })) k (laid w m f g h (below w m k f g h rules.tabled) once)
