-- What a resume hands on behind a suspend, and what it doesn't.
use Rattle.std.proofs.Common.{◌≡◌, ◌⊎◌, inl, inr, ℕ, zero, suc, Bool, true, false, [], ◌∷◌, Some, None, refl, sym, ◌∙◌, subst, if◌then◌else◌}
use Rattle.std.proofs.lemmas.Bool.{false≢true}
use Rattle.std.specs.List.{Contains}
use Rattle.pass_frames_proof.specs.ir_paths.declared.point.Point.{Point}
use Rattle.pass_frames_proof.specs.pass_cells.Kept.{entry}
use Rattle.pass_frames_proof.specs.pass_cells.declared.plan.KeptValue.{KeptValue}
use Rattle.pass_frames_proof.specs.pass_frames.Framed.{begin_of}
use Rattle.pass_frames_meaning.proofs.begun.Begun.{begin_plain}
use Rattle.pass_frames_meaning.proofs.woken.Unkept.{alloca_near, alloca_unkept, begin_near}
use Rattle.pass_frames_meaning.specs.Setting.{Setting}
use Rattle.pass_frames_meaning.specs.Woken.{IsHandedOn, IsWakeable}
use Rattle.pass_frames_proof.specs.Framings.{IsFraming}
use Rattle.pass_frames_proof.specs.Places.{Framing, offsets, plan}
use Rattle.pass_frames_proof.specs.Related.{AreGone, IsKeptValue, IsSuspendNumber}
use Rattle.pass_frames_proof.proofs.pass_kept_proof.Same.{kept_at}
use Rattle.pass_frames_proof.specs.pass_kept_proof.Kept.{kept}
use Rattle.pass_frames_proof.specs.pass_proofs.addresses.rules.Addresses.{lies_in_frame}
use Rattle.pass_frames_proof.specs.run_memory.declared.pointer.Value.{Value}
use Rattle.pass_frames_proof.specs.run_step.Values.{Env, value_in}

-- what isn't handed on has no value
pub kept_out : (keep : ℕ → Bool) (env : Env) (v : ℕ) → keep v ≡ false → value_in (kept keep env) v ≡ Value.Poison
kept_out keep [] v t = refl
kept_out keep (o ∷ env) zero t = on (keep 0) t
  where
    on : (b : Bool) → b ≡ false → value_in ((if b then o else None) ∷ kept (λ i. keep (suc i)) env) 0 ≡ Value.Poison
    on true e = absurd (cc)
    on false e = refl
kept_out keep (o ∷ env) (suc v) t = kept_out (λ i. keep (suc i)) env v t

module _ (c : Setting) (func : ℕ) (x : Framing) (is : IsFraming x) (w : IsWakeable c func x) where
  -- a name that is kept in no cell
  unkept_no : (v : ℕ) (k : KeptValue) → IsKeptValue x v k → entry (plan x).places v ≡ None → ⊥
  unkept_no v k kept none = let both : Some kept.number ≡ None = sym kept.told ∙ none in cc

  module _ (j : ℕ) (p : Point) (number : IsSuspendNumber x j p) where
    abbrev keep : ℕ → Bool
    keep = c.g.keep func p

    pub unhanded : (v : ℕ) → entry (plan x).places v ≡ None → lies_in_frame (offsets x) v ≡ false
        → c.g.flags func v ≡ false → (v ≡ begin_of x.function) ⊎ (keep v ≡ false)
    unhanded v none outside off = on (keep v) refl
      where
        slot : (c.g.flags func v ≡ true) ⊎ (lies_in_frame (offsets x) v ≡ true) → ⊥
        slot (inl flag) = false≢true (sym off ∙ flag)
        slot (inr inside) = false≢true (sym outside ∙ inside)

        by : IsHandedOn c func x j v → (v ≡ begin_of x.function) ⊎ (keep v ≡ false)
        by (inl crosses) = absurd (unkept_no v crosses.1 crosses.2 none)
        by (inr (inl begin)) = inl begin
        by (inr (inr memory)) = absurd (slot memory.1)

        on : (b : Bool) → keep v ≡ b → (v ≡ begin_of x.function) ⊎ (keep v ≡ false)
        on true e = by (w.alone j p v number e)
        on false e = inr e

    module _ (env : Env) where
      pub handed : (v : ℕ) (k : KeptValue) → IsKeptValue x v k → Contains x.contents.crossing (v, j)
          → value_in (kept keep env) v ≡ value_in env v
      handed v k told crosses = kept_at keep env v (w.handed j p v number crosses)

      gone_values : (v : ℕ) (k : KeptValue) → IsKeptValue x v k
          → Contains x.contents.crossing (v, j) ⊎ (value_in (kept keep env) v ≡ Value.Poison)
      gone_values v k told = on (keep v) refl
        where
          by : IsHandedOn c func x j v
              → Contains x.contents.crossing (v, j) ⊎ (value_in (kept keep env) v ≡ Value.Poison)
          by (inl crosses) = inl crosses.0
          by (inr (inl begin)) = absurd (unkept_no v k told
              (subst (λ (n : ℕ). entry (plan x).places n ≡ None) (sym begin) (begin_plain x is).unkept))
          by (inr (inr memory)) = absurd (unkept_no v k told (alloca_unkept x is v memory.0))

          on : (b : Bool) → keep v ≡ b
              → Contains x.contents.crossing (v, j) ⊎ (value_in (kept keep env) v ≡ Value.Poison)
          on true e = by (w.alone j p v number e)
          on false e = inr (kept_out keep env v e)

      gone_links : (v cell : ℕ) → entry (plan x).cells v ≡ Some cell → entry (plan x).places v ≡ None
          → value_in (kept keep env) v ≡ Value.Poison
      gone_links v cell has none = on (keep v) refl
        where
          near : entry (plan x).cells v ≡ None → ⊥
          near e = let both : Some cell ≡ None = sym has ∙ e in cc

          by : IsHandedOn c func x j v → value_in (kept keep env) v ≡ Value.Poison
          by (inl crosses) = absurd (unkept_no v crosses.1 crosses.2 none)
          by (inr (inl begin)) = absurd (near
              (subst (λ (n : ℕ). entry (plan x).cells n ≡ None) (sym begin) (begin_near x is w.begins)))
          by (inr (inr memory)) = absurd (near (alloca_near x is v memory.0))

          on : (b : Bool) → keep v ≡ b → value_in (kept keep env) v ≡ Value.Poison
          on true e = by (w.alone j p v number e)
          on false e = kept_out keep env v e

      pub gone : AreGone x j (kept keep env)
      gone = record { values = gone_values; links = gone_links }
