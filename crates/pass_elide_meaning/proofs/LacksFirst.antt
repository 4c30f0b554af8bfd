-- Where both runs start, nothing is lacking.
use Rattle.std.proofs.Common.{ℕ, List}
use Rattle.pass_elide_known.proofs.FirstStates.{framed_start, giving_start}
use Rattle.pass_elide_known.specs.Keeping.{KeepsMore}
use Rattle.pass_elide_known.specs.States.{IsKnownFramed, IsKnownGiving}
use Rattle.pass_elide_meaning.specs.Lacks.{LacksFramed, LacksGiving}
use Rattle.pass_elide_edges.specs.pass_elide_proof.Assembling.{elided_after, framed_after}
use Rattle.pass_elide_edges.specs.pass_elide_proof.Elision.{Elision, framed}
use Rattle.pass_elide_edges.specs.pass_elide_proof.Placing.{KeepsPlaces}
use Rattle.pass_elide_edges.specs.pass_elide_proof.Statement.{IsEntryCall}
use Rattle.pass_elide_runs.proofs.Small.{words_small}
use Rattle.pass_elide_runs.specs.Keeps.{KeepsRuns}
use Rattle.pass_elide_edges.specs.pass_proofs.ir_base.declared.outcome.Word.{Word}

module _ (e : Elision) (keeps : KeepsPlaces e) (more : KeepsMore e) (entry : ℕ) (args : List Word)
    (call : IsEntryCall e entry args) where
  pub framed_lacks : KeepsRuns e → LacksFramed e (framed_after e entry args 0)
  framed_lacks k = record { exact = known.exact }
    where
      known : IsKnownFramed e (framed_after e entry args 0)
      known = framed_start e keeps more entry args call.plain (λ a result must_tail ty vs word takes.
          words_small (framed e) k.switches k.types keeps.ungiven entry args call.fits 0 a result must_tail ty vs word
          takes.allocates takes.there takes.takes)

  pub giving_lacks : LacksGiving e (elided_after e entry args 0)
  giving_lacks = record { aside = known.aside; marks = known.marks }
    where
      known : IsKnownGiving e (elided_after e entry args 0)
      known = giving_start e keeps more entry args call.plain
