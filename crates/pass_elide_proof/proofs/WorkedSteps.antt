-- In the worked runs the coroutine's alloca makes a block in both, whose ramp was given its frame in one.
use Rattle.std.proofs.Common.{◌≡◌, ◌<◌, ℕ, true, refl, subst, arith}
use Rattle.std.specs.Prelude.{None, Some}
use Rattle.pass_elide_proof.specs.Making.{IsAtAlloca}
use Rattle.pass_elide_proof.specs.Ordinary.{IsAtOwn, IsPlainName}
use Rattle.pass_elide_proof.specs.Worked.{after, before, the_elision, the_shape}
use Rattle.pass_proofs.specs.ir_model.Ty.{int}
use Rattle.pass_proofs.specs.ir_model.declared.instr.Instr.{Instr}

none_some : (v : ℕ) → None ≡ Some v → ⊥
none_some v e = absurd (cc)

alloca_own : IsAtOwn the_elision (before 1) (after 2) (Instr.Alloca 24 (int 32) 4)
alloca_own = record {
  runs = refl;
  there = refl;
  block = refl;
  at = refl;
  no_room = refl;
  no_ramp = λ n is. absurd (cc);
  indices = tt;
  reads = λ v is. absurd (cc);
  named = λ v is. let same : 24 ≡ v = cc in subst (λ (k : ℕ). k < 32) same (omega arith);
  plain = λ v is. let same : 24 ≡ v = cc in
      subst (IsPlainName the_shape true true) same
      (record { need = λ h. refl; freed = λ h. refl; tested = λ h. refl });
  holds = λ h. refl;
  kept = λ v name h is held. absurd (none_some name held);
}

pub alloca_made : IsAtAlloca the_elision (before 1) (after 2) 24 (int 32) 4
alloca_made = record {
  own = alloca_own;
  slots = (tt, (tt, tt));
  mode = tt;
  small = omega arith;
  aligned = refl;
}
