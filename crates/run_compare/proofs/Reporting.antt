-- The report of both runs.
use Rattle.std.proofs.Common.{◌≡◌, ◌+◌, ◌∙◌, ℕ, Bool, true, false, Some, refl, sym, ap, subst, arith}
use Rattle.ir_base.specs.declared.outcome.Outcome.{Outcome}
use Rattle.run_agreement.specs.Machines.{IsFine, Seen}
use Rattle.run_compare.proofs.Following.{least_follows}
use Rattle.run_compare.specs.Report.{AreCounts, AreNumbers, HasCounts, IsFollowed, IsReport, IsStop, is_returned, is_undefined, plain_seen, source_seen}
use Rattle.run_compare.specs.declared.reports.Counts.{Counts}
use Rattle.run_plain.specs.Machines.{PlainRun}
use Rattle.run_source.specs.Machines.{SourceRun, ran}

module _ (r : SourceRun) (b : PlainRun) (followed : IsFollowed (source_seen r) (plain_seen b)) (bound n : ℕ)
    (stop : IsStop (source_seen r) bound n) where
  counts_by : (c : Counts) → IsFine (source_seen r n).outcome
      → AreNumbers (source_seen r n) n (is_returned (source_seen r n).outcome) b c → AreCounts (source_seen r) b n c
  counts_by c fine k =
      let f = followed n fine in
      record {
        events = k.events;
        source_steps = k.source_steps;
        lowered_steps = least_follows (source_seen r n) b c.lowered_steps k.lowered_steps f.0 f.1;
        source_allocs = k.source_allocs;
        lowered_allocs = k.lowered_allocs;
        elided = k.elided;
      }

  fine_by : (o : Outcome) → is_undefined o ≡ false → IsFine o
  fine_by (Outcome.Returned v) told = tt
  fine_by Outcome.Running told = tt
  fine_by (Outcome.Undefined cause place) told = absurd (cc)

  has_counts : (o : Outcome) → IsFine o → (c : Counts) → AreCounts (source_seen r) b n c
      → HasCounts (source_seen r) b n o (Some c)
  has_counts (Outcome.Returned v) fine c k = k
  has_counts Outcome.Running fine c k = k
  has_counts (Outcome.Undefined cause place) fine c k = absurd fine

  pub reported : (s : SourceRun) → s ≡ ran n r → (o : Outcome) → o ≡ s.state.outcome → (undefined : Bool)
      → undefined ≡ is_undefined o → undefined ≡ false → (returned : Bool)
      → returned ≡ is_returned o → (c : Counts) → AreNumbers (source_seen s 0) n returned b c
      → IsReport (source_seen r) b bound (record { outcome = o; counts = Some c })
  reported s is o told undefined wrong not returned over c k =
      let fine : IsFine o = fine_by o (sym wrong ∙ not) in
      let same : o ≡ (source_seen r n).outcome = told ∙ ap (λ (x : SourceRun). x.state.outcome) is in
      let at : AreNumbers (source_seen r n) n (is_returned (source_seen r n).outcome) b c =
      subst (λ (t : Bool). AreNumbers (source_seen r n) n t b c) (over ∙ ap is_returned same)
      (subst (λ (x : SourceRun). AreNumbers (source_seen x 0) n returned b c) is k) in
      record {
        steps = n;
        stop = stop;
        outcome = same;
        counts = has_counts o fine c (counts_by c (subst IsFine same fine) at);
      }
