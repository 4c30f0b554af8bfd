-- Lemmas on whole.
use Rattle.std.proofs.Common.{ℕ, refl}
use Rattle.pass_proofs.specs.pass_front.Front.{with_front_allocas}
use Rattle.ir_model.specs.declared.module.Function.{Function}
use Rattle.pass_proofs.proofs.rule_laws.rules.front_rules.Carried.{Carries, carried}
use Rattle.compiler.specs.cleanup.unnamed_intrinsics.Unnamed.{NamesNoIntrinsic, names_intrinsic}

pub unnamed_kept : (func : ℕ) (f : Function) → NamesNoIntrinsic func f → NamesNoIntrinsic func (with_front_allocas f)
unnamed_kept func f = carried f names_intrinsic names_intrinsic over func
  where
    over : Carries f names_intrinsic names_intrinsic
    over = record { signature = λ p e. refl; head = λ p b c s e. refl; phi = λ p x e. e; instr = λ p q i same e. e; ending = λ p q t same e. e }
