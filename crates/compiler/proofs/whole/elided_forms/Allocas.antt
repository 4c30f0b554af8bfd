-- The allocas that a function puts in front for frames are ones of new names, of types and sizes that may stand there.
use Rattle.std.proofs.Common.{◌≡◌, ℕ, zero, suc, ◌+◌, ◌<◌, ◌≤◌, Bool, true, false, List, [], ◌∷◌, ◌++◌, length, refl, sym, ap, ◌∙◌, subst, arith, inl, inr, ⊎_elim, length-append}
use Rattle.std.proofs.lemmas.Bool.{cases_lt}
use Rattle.std.specs.Prelude.{not, ◌&&◌, ◌*◌, codes}
use Rattle.compiler.proofs.whole.elided_forms.Rooms.{IsAllocaFrame}
use Rattle.ir_base.specs.declared.name.Name.{Name}
use Rattle.ir_base.specs.declared.outcome.Place.{Place}
use Rattle.ir_model.specs.Layout.{size_of}
use Rattle.ir_model.specs.Ty.{array, int}
use Rattle.ir_model.specs.declared.instr.Instr.{Instr}
use Rattle.ir_model.specs.declared.module.Function.{Function}
use Rattle.ir_model.specs.declared.module.Module.{Module}
use Rattle.ir_model.specs.declared.module.TypeItem.{TypeItem}
use Rattle.pass_elide.specs.Elided.{frame_alloca, frame_allocas}
use Rattle.pass_elide.specs.declared.given.GivenFrame.{GivenFrame}
use Rattle.pass_proofs.proofs.ir_laws.facts.Members.{each_joined}
use Rattle.pass_proofs.proofs.ir_laws.facts.Truth.{and_both}
use Rattle.pass_proofs.specs.flow_solver.Paths.{IsListed}
use Rattle.pass_proofs.specs.ir_laws.paths.woven_rules.Pairs.{AreDifferent}
use Rattle.pass_proofs.specs.pass_fetch.Blocks.{numbered_names}
use Rattle.pass_proofs.specs.rule_laws.rules.woven_rules.Fronts.{FrontFits, IsNewAlloca, results_of}
use Rattle.pass_proofs.specs.rule_locals.Extents.{is_aligned, is_sized}
use Rattle.pass_proofs.specs.rule_names.declared.stage.Stage.{Stage}
use Rattle.pass_proofs.specs.rule_types.Depth.{is_shallow}
use Rattle.pass_proofs.specs.run_laws.changed.Changed.{Each}

-- ---- bytes

bytes_size : (m : Module) (n : ℕ) → size_of m (array n (int 8)) ≡ n
bytes_size m n = let one : n * 1 ≡ n = omega arith in one

bytes_shallow : (types : List TypeItem) (n : ℕ) → is_shallow types (array n (int 8)) ≡ true
unfolding is_shallow
bytes_shallow types n = refl

-- ---- as many new names as rooms

pub names_count : (word : List ℕ) (k : ℕ) → length (numbered_names word k) ≡ k
names_count word zero = refl
names_count word (suc k) =
    let joined : length (numbered_names word (suc k)) ≡ length (numbered_names word k) + 1 =
    length-append (numbered_names word k) _ in
    let before : length (numbered_names word k) ≡ k = names_count word k in
    omega (arith, joined, before)

-- ---- the allocas

module _ (m : Module) (first after : ℕ) where
  new_alloca : (n size align : ℕ) → first ≤ n → n < after → is_sized 16777216 size ≡ true → is_aligned align ≡ true
      → IsNewAlloca Stage.Plain m first after (Instr.Alloca n (array size (int 8)) align)
  new_alloca n size align low high sized aligned =
      record {
        name = n;
        ty = array size (int 8);
        align = align;
        is = refl;
        low = low;
        high = high;
        tokenless = refl;
        types = refl;
        depths = and_both (is_shallow m.types (array size (int 8))) true (bytes_shallow m.types size) refl;
        extents = λ p.
            ap (λ (k : ℕ). not (is_sized 16777216 k && is_aligned align)) (bytes_size m size)
            ∙ ap not (and_both (is_sized 16777216 size) (is_aligned align) sized aligned);
      }

  pub allocas_new : (n : ℕ) (rs : List GivenFrame) → first ≤ n → n + length rs ≤ after → Each IsAllocaFrame rs
      → Each (IsNewAlloca Stage.Plain m first after) (frame_allocas n rs)
  allocas_new n [] low high h = tt
  allocas_new n (r ∷ rs) low high h =
      let lower : first ≤ n + 1 = omega (arith, low) in
      let higher : (n + 1) + length rs ≤ after = omega (arith, high) in
      let here : n < after = omega (arith, high) in
      each_joined (IsNewAlloca Stage.Plain m first after) (frame_alloca n r) (frame_allocas (n + 1) rs)
      (subst (λ (x : GivenFrame). Each (IsNewAlloca Stage.Plain m first after) (frame_alloca n x)) (sym h.0.is)
      (new_alloca n h.0.size h.0.align low here h.0.sized h.0.aligned, tt))
      (allocas_new (n + 1) rs lower higher h.1)

-- ---- their names

results_low : (n v : ℕ) (rs : List GivenFrame) → Each IsAllocaFrame rs → IsListed v (results_of (frame_allocas n rs))
    → n ≤ v
results_low n v [] h l = absurd l
results_low n v (r ∷ rs) h l =
    on (results_low (n + 1) v rs h.1)
    (subst (λ (x : GivenFrame). IsListed v (results_of (frame_alloca n x ++ frame_allocas (n + 1) rs))) h.0.is l)
  where
    on : (IsListed v (results_of (frame_allocas (n + 1) rs)) → n + 1 ≤ v)
        → IsListed v (n ∷ results_of (frame_allocas (n + 1) rs)) → n ≤ v
    on again (inl e) = omega (arith, e)
    on again (inr more) = let low : n + 1 ≤ v = again more in omega (arith, low)

results_differ : (n : ℕ) (rs : List GivenFrame) → Each IsAllocaFrame rs → AreDifferent (results_of (frame_allocas n rs))
results_differ n [] h = tt
results_differ n (r ∷ rs) h =
    subst (λ (x : GivenFrame). AreDifferent (results_of (frame_alloca n x ++ frame_allocas (n + 1) rs))) (sym h.0.is) (
      (λ l. let low : n + 1 ≤ n = results_low (n + 1) n rs h.1 l in absurd (omega (arith, low))),
      results_differ (n + 1) rs h.1,
    )

pub front_fits : (m : Module) (f : Function) (names : List Name) (rs : List GivenFrame) → length names ≡ length rs
    → Each IsAllocaFrame rs → FrontFits Stage.Plain m f (frame_allocas (length f.names) rs) names
front_fits m f names rs count h =
    record {
      each = allocas_new m (length f.names) (length f.names + length names) (length f.names) rs (omega arith)
          (omega (arith, count)) h;
      different = results_differ (length f.names) rs h;
    }

-- ---- each of them stands there

pub record IsInFront (v : ℕ) (is : List Instr) : Type 0 where
  pub size : ℕ
  pub align : ℕ
  pub listed : IsListed (Instr.Alloca v (array size (int 8)) align) is

listed_behind : (i : Instr) (x y : List Instr) → IsListed i y → IsListed i (x ++ y)
listed_behind i [] y l = l
listed_behind i (z ∷ x) y l = inr (listed_behind i x y l)

pub stands_in_front : (n v : ℕ) (rs : List GivenFrame) → Each IsAllocaFrame rs → n ≤ v → v < n + length rs
    → IsInFront v (frame_allocas n rs)
stands_in_front n v [] h low high = absurd (omega (arith, low, high))
stands_in_front n v (r ∷ rs) h low high =
    ⊎_elim (λ more. above (stands_in_front (n + 1) v rs h.1 (omega (arith, more)) (omega (arith, high)))) here (cases_lt n v)
  where
    here : v ≤ n → IsInFront v (frame_allocas n (r ∷ rs))
    here most =
        let same : v ≡ n = omega (arith, low, most) in
        record {
          size = h.0.size;
          align = h.0.align;
          listed = subst
              (λ (x : GivenFrame).
              IsListed (Instr.Alloca v (array h.0.size (int 8)) h.0.align) (frame_alloca n x ++ frame_allocas (n + 1) rs))
              (sym h.0.is) (inl (ap (λ (k : ℕ). Instr.Alloca k (array h.0.size (int 8)) h.0.align) same));
        }

    above : IsInFront v (frame_allocas (n + 1) rs) → IsInFront v (frame_allocas n (r ∷ rs))
    above x =
        record {
          size = x.size;
          align = x.align;
          listed = listed_behind (Instr.Alloca v (array x.size (int 8)) x.align) (frame_alloca n r)
              (frame_allocas (n + 1) rs) x.listed;
        }
