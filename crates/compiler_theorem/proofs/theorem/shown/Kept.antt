-- Instances and memory of a source stay where resumes hand on less, but for places and values.
use Rattle.std.proofs.Common.{◌≡◌, ℕ, zero, suc, List, [], ◌∷◌, Some, map, refl, sym, ap, ◌∙◌, subst}
use Rattle.std.proofs.lemmas.Option.{slice_get-map}
use Rattle.std.specs.Prelude.{ℤ, option_map, slice_get}
use Rattle.compiler.specs.ir_model.declared.module.Frame.{Frame}
use Rattle.compiler.specs.ir_model.declared.module.Module.{Module}
use Rattle.compiler.specs.pass_early.Early.{early_module}
use Rattle.compiler.specs.pass_kept_proof.Related.{AreInstances}
use Rattle.compiler.proofs.pass_proofs.early.path_rules.RenamedOperands.{map_was}
use Rattle.compiler.specs.pass_proofs.early.early_states.Beside.{IsEarlyOf, unsaved_module}
use Rattle.compiler.specs.pass_proofs.early.save_states.SavedState.{saved_instance}
use Rattle.compiler.specs.pass_proofs.edges.simulation.Beside.{IsEarlySplitOf}
use Rattle.compiler.specs.pass_proofs.edges.states.MovedState.{edges_split, moved_instance}
use Rattle.compiler.specs.pass_proofs.kept.sources.Beside.{IsKeptOf}
use Rattle.compiler.specs.run_source.Source.{given}
use Rattle.compiler.specs.run_source.declared.state.Instance.{Instance}
use Rattle.compiler.specs.run_source.declared.state.State.{State}
use Rattle.compiler.specs.run_source_tables.Given.{Given}
use Rattle.compiler.specs.run_states.shortened.Shortened.{short_instance}

-- an instance with the same slots
pub record IsLike (x y : Instance) : Type 0 where
  pub coroutine : y.coroutine ≡ x.coroutine
  pub block : y.block ≡ x.block
  pub start : y.start ≡ x.start
  pub slots : y.slots ≡ x.slots

then : (x y z : Instance) → IsLike x y → IsLike y z → IsLike x z
then x y z h k = record {
  coroutine = k.coroutine ∙ h.coroutine;
  block = k.block ∙ h.block;
  start = k.start ∙ h.start;
  slots = k.slots ∙ h.slots;
}

pub record HasLike (ys : List Instance) (i : ℕ) (x : Instance) : Type 0 where
  pub instance : Instance
  pub there : slice_get ys i ≡ Some instance
  pub like : IsLike x instance

further : (ys : List Instance) (i : ℕ) (x y : Instance) → IsLike x y → HasLike ys i y → HasLike ys i x
further ys i x y h k = record { instance = k.instance; there = k.there; like = then x y k.instance h k.like }

mapped : (f : Instance → Instance) → ((x : Instance) → IsLike x (f x)) → (xs ys : List Instance) → ys ≡ map f xs
    → (i : ℕ) (x : Instance) → slice_get xs i ≡ Some x → HasLike ys i x
mapped f like xs ys is i x e = record {
  instance = f x;
  there = ap (λ (zs : List Instance). slice_get zs i) is ∙ slice_get-map f xs i ∙ ap (option_map f) e;
  like = like x;
}

was_mapped : (f : Instance → Instance) → ((x : Instance) → IsLike (f x) x) → (xs ys : List Instance) → ys ≡ map f xs
    → (i : ℕ) (y : Instance) → slice_get ys i ≡ Some y → HasLike xs i y
was_mapped f like xs ys is i y e =
    let z = map_was f xs i y (ap (λ (zs : List Instance). slice_get zs i) (sym is) ∙ e) in
    let back = like z.0 in
    record {
      instance = z.0;
      there = z.1.0;
      like = record {
        coroutine = back.coroutine ∙ ap (λ (u : Instance). u.coroutine) (sym z.1.1);
        block = back.block ∙ ap (λ (u : Instance). u.block) (sym z.1.1);
        start = back.start ∙ ap (λ (u : Instance). u.start) (sym z.1.1);
        slots = back.slots ∙ ap (λ (u : Instance). u.slots) (sym z.1.1);
      };
    }

handed : (g : Given) (xs ys : List Instance) → AreInstances g xs ys → (i : ℕ) (x : Instance) → slice_get xs i ≡ Some x
    → HasLike ys i x
handed g [] ys h i x e = absurd (cc)
handed g (z ∷ xs) [] h i x e = absurd h
handed g (z ∷ xs) (y ∷ ys) h zero x e =
    let same : z ≡ x = cc in
    let is = h.0.1 in
    record {
      instance = y;
      there = refl;
      like = record {
        coroutine = ap (λ (u : Instance). u.coroutine) is ∙ ap (λ (u : Instance). u.coroutine) same;
        block = ap (λ (u : Instance). u.block) is ∙ ap (λ (u : Instance). u.block) same;
        start = ap (λ (u : Instance). u.start) is ∙ ap (λ (u : Instance). u.start) same;
        slots = ap (λ (u : Instance). u.slots) is ∙ ap (λ (u : Instance). u.slots) same;
      };
    }
handed g (z ∷ xs) (y ∷ ys) h (suc i) x e =
    let r = handed g xs ys h.1 i x e in record { instance = r.instance; there = r.there; like = r.like }

-- ---- in a row

module _ (m : Module) (sizes : List Frame) (answers : List ℤ) (s t : State) where
  early_instance : (v : State) → IsEarlyOf m s v → (i : ℕ) (x : Instance) → slice_get s.instances i ≡ Some x
      → HasLike v.instances i x
  early_instance v h i x e =
      let short = h.1 in
      let saved = h.2 in
      let was = was_mapped (short_instance m)
      (λ u. record { coroutine = refl; block = refl; start = refl; slots = refl })
      h.0.instances s.instances (ap (λ (u : State). u.instances) short.is) i x e in
      further v.instances i x was.instance was.like
      (mapped (saved_instance (unsaved_module m))
      (λ u. record { coroutine = refl; block = refl; start = refl; slots = refl })
      h.0.instances v.instances (ap (λ (u : State). u.instances) saved.is) i was.instance was.there)

  early_world : (v : State) → IsEarlyOf m s v → v.world ≡ s.world
  early_world v h =
      ap (λ (u : State). u.world) h.2.is ∙ sym (ap (λ (u : State). u.world) h.1.is)

  split_instance : (v : State) → IsEarlySplitOf m s v → (i : ℕ) (x : Instance) → slice_get s.instances i ≡ Some x
      → HasLike v.instances i x
  split_instance v h i x e =
      let was = early_instance h.0 h.1 i x e in
      further v.instances i x was.instance was.like
      (mapped (moved_instance (early_module m))
      (λ u. record { coroutine = refl; block = refl; start = refl; slots = refl })
      h.0.instances v.instances (ap (λ (u : State). u.instances) h.2.is) i was.instance was.there)

  split_world : (v : State) → IsEarlySplitOf m s v → v.world ≡ s.world
  split_world v h = ap (λ (u : State). u.world) h.2.is ∙ early_world h.0 h.1

  pub kept_instance : IsKeptOf m sizes answers s t → (i : ℕ) (x : Instance) → slice_get s.instances i ≡ Some x
      → HasLike t.instances i x
  kept_instance h i x e =
      let was = split_instance h.0 h.1 i x e in
      let hands = h.2.0 in
      further t.instances i x was.instance was.like
      (handed (given (edges_split (early_module m)) sizes answers) h.0.instances t.instances
      (subst (AreInstances (given (edges_split (early_module m)) sizes answers) h.0.instances)
      (sym (ap (λ (u : State). u.instances) hands.is)) hands.insts) i was.instance was.there)

  pub kept_world : IsKeptOf m sizes answers s t → t.world ≡ s.world
  kept_world h = ap (λ (u : State). u.world) h.2.0.is ∙ split_world h.0 h.1
