-- At the start nothing has begun.
use Rattle.std.proofs.Common.{List, ℕ}
use Rattle.pass_elide_kept.specs.Kept.{AreKept, HaveKeepers}
use Rattle.pass_elide_proof.specs.Elision.{Elision, elided_code}
use Rattle.pass_elide_proof.specs.Statement.{AreRelated}
use Rattle.pass_elide_proof.specs.pass_proofs.ir_base.declared.outcome.Word.{Word}
use Rattle.pass_elide_proof.specs.pass_proofs.run_source.Source.{first_state}

pub first_keepers : (e : Elision) (entry : ℕ) (args : List Word)
    → HaveKeepers e (first_state e.code entry args) (first_state (elided_code e) entry args)
first_keepers e entry args = record {
  each = λ number x y at. absurd (let there = at.first in cc);
  replaced = λ number later x y z at there lt began. absurd (let first = at.first in cc);
}

pub first_kept : (e : Elision) (entry : ℕ) (args : List Word)
    → AreRelated e (first_state e.code entry args) (first_state (elided_code e) entry args)
    → AreKept e (first_state e.code entry args) (first_state (elided_code e) entry args)
first_kept e entry args r = record { related = r; keepers = first_keepers e entry args }
