-- Where a function has one coro.end, it stands in its end block.
use Rattle.std.proofs.Common.{◌≡◌, ◌∙◌, ℕ, zero, suc, Bool, true, false, List, [], ◌∷◌, length, None, Option, Some, ap, refl, subst, sym, if◌then◌else◌, ◌||◌}
use Rattle.std.specs.List.{list_any}
use Rattle.std.specs.Prelude.{option_map, slice_get, unwrap_or}
use Rattle.pass_elide_kept.specs.Runs.{EndsInBlock}
use Rattle.pass_elide_lacks.specs.Ends.{HasOneEnd}
use Rattle.pass_elide_meaning.proofs.pass_elide_edges.pass_elide_proof.ElidedFound.{fetched}
use Rattle.pass_elide_meaning.proofs.pass_elide_edges.pass_elide_proof.Facts.{not_both}
use Rattle.pass_elide_meaning.proofs.pass_elide_edges.pass_elide_proof.GoesOn.{instr_there}
use Rattle.pass_elide_meaning.proofs.pass_elide_edges.pass_elide_proof.pass_proofs.ir_laws.facts.Lists.{none_found}
use Rattle.pass_elide_meaning.specs.pass_elide_edges.pass_elide_proof.Elision.{Elision, function_in}
use Rattle.pass_elide_meaning.specs.pass_elide_edges.pass_elide_proof.Places.{instrs_in}
use Rattle.pass_elide_meaning.specs.pass_elide_edges.pass_elide_proof.pass_proofs.ir_model.Names.{first_where}
use Rattle.pass_elide_meaning.specs.pass_elide_edges.pass_elide_proof.pass_proofs.ir_model.declared.instr.Instr.{Instr}
use Rattle.pass_elide_meaning.specs.pass_elide_edges.pass_elide_proof.pass_proofs.ir_model.declared.module.Block.{Block}
use Rattle.pass_elide_meaning.specs.pass_elide_edges.pass_elide_proof.pass_proofs.ir_model.declared.module.Function.{Function}
use Rattle.pass_elide_meaning.specs.pass_elide_edges.pass_elide_proof.pass_proofs.ir_model.declared.operand.Callee.{Callee}
use Rattle.pass_elide_meaning.specs.pass_elide_edges.pass_elide_proof.pass_proofs.ir_model.declared.operand.Intrinsic.{Intrinsic}
use Rattle.pass_elide_meaning.specs.pass_elide_edges.pass_elide_proof.pass_proofs.ir_paths.Windows.{end_block, is_call_of}
use Rattle.pass_elide_meaning.specs.pass_elide_edges.pass_elide_proof.pass_proofs.ir_paths.declared.point.Point.{Point}
use Rattle.pass_elide_meaning.specs.pass_elide_edges.pass_elide_proof.pass_proofs.pass_kept_proof.SuspendRules.{IsCallAt}

-- ---- lists

record Stands {A : Type 0} (t : A → Bool) (xs : List A) (k : ℕ) : Type 0 where
  element : A
  there : slice_get xs k ≡ Some element
  passes : t element ≡ true

further : {A : Type 0} (t : A → Bool) (x : A) (xs : List A) (k : ℕ) → Stands t xs k → Stands t (x ∷ xs) (suc k)
further t x xs k h = record { element = h.element; there = h.there; passes = h.passes }

first_stands : {A : Type 0} (t : A → Bool) (xs : List A) (k : ℕ) → first_where t xs ≡ Some k → Stands t xs k
first_stands t [] k h = absurd (cc)
first_stands {A} t (x ∷ xs) k h = by (t x) refl h
    (on (λ n. first_stands t xs n) (first_where t xs) refl)
  where
    on : ((n : ℕ) → first_where t xs ≡ Some n → Stands t xs n) → (o : Option ℕ) → first_where t xs ≡ o
        → option_map suc o ≡ Some k → Stands t (x ∷ xs) k
    on again None eo e = absurd (cc)
    on again (Some n) eo e =
        let same : suc n ≡ k = cc in
        subst (Stands t (x ∷ xs)) same (further t x xs n (again n eo))

    by : (b : Bool) → t x ≡ b → (if b then Some 0 else option_map suc (first_where t xs)) ≡ Some k
        → (option_map suc (first_where t xs) ≡ Some k → Stands t (x ∷ xs) k) → Stands t (x ∷ xs) k
    by true is e rest =
        let same : 0 ≡ k = cc in
        subst (Stands t (x ∷ xs)) same (record { element = x; there = refl; passes = is })
    by false is e rest = rest e

any_there : {A : Type 0} (t : A → Bool) (xs : List A) (k : ℕ) (x : A) → slice_get xs k ≡ Some x → t x ≡ true
    → list_any t xs ≡ true
any_there t [] k x there is = absurd (cc)
any_there t (y ∷ xs) zero x there is =
    let same : y ≡ x = cc in ap (λ (b : Bool). b || list_any t xs) (ap t same ∙ is)
any_there t (y ∷ xs) (suc k) x there is = by (t y) (any_there t xs k x there is)
  where
    by : (b : Bool) → list_any t xs ≡ true → (b || list_any t xs) ≡ true
    by true rest = refl
    by false rest = rest

any_stands : {A : Type 0} (t : A → Bool) (xs : List A) → list_any t xs ≡ true → (k : ℕ) × Stands t xs k
any_stands t [] h = absurd (cc)
any_stands t (x ∷ xs) h = by (t x) refl h (any_stands t xs)
  where
    by : (b : Bool) → t x ≡ b → (b || list_any t xs) ≡ true → (list_any t xs ≡ true → (k : ℕ) × Stands t xs k)
        → (k : ℕ) × Stands t (x ∷ xs) k
    by true is e again = (0, record { element = x; there = refl; passes = is })
    by false is e again = let rest = again e in (suc rest.0, further t x xs rest.0 rest.1)

-- ---- the end

module _ (f : Function) (one : HasOneEnd f) where
  abbrev calls : Instr → Bool
  calls = is_call_of Intrinsic.CoroEnd

  abbrev holds : Block → Bool
  holds b = list_any calls b.instrs

  held : (p : Point) → IsCallAt Intrinsic.CoroEnd f p → (b : Block) → slice_get f.blocks p.block ≡ Some b
      → holds b ≡ true
  held p c b whole =
      any_there calls b.instrs p.at c.instr
      (ap (λ (o : Option Block). slice_get (instrs_in o) p.at) (sym whole)
      ∙ instr_there f p.block p.at c.instr c.stands) c.is

  end_at : (p : Point) (c : IsCallAt Intrinsic.CoroEnd f p) (b : Block) → slice_get f.blocks p.block ≡ Some b
      → p.block ≡ end_block f
  end_at p c b whole = by (first_where holds f.blocks) refl
    where
      by : (o : Option ℕ) → first_where holds f.blocks ≡ o → p.block ≡ unwrap_or o (length f.blocks)
      by None eo =
          absurd (not_both (holds b) (held p c b whole) (none_found holds f.blocks eo p.block b whole))
      by (Some k) eo =
          let x = first_stands holds f.blocks k eo in
          let y = any_stands calls x.element.instrs x.passes in
          ap (λ (q : Point). q.block)
          (one p (record { block = k; at = y.0 }) c
          (record {
            instr = y.1.element;
            stands = fetched f k y.0 y.1.element
                (ap (λ (o : Option Block). slice_get (instrs_in o) y.0) x.there ∙ y.1.there);
            is = y.1.passes;
          }))

  pub end_in_block : (p : Point) → IsCallAt Intrinsic.CoroEnd f p → p.block ≡ end_block f
  end_in_block p c = by (slice_get f.blocks p.block) refl
    where
      never : None ≡ Some c.instr → ⊥
      never e = cc

      by : (o : Option Block) → slice_get f.blocks p.block ≡ o → p.block ≡ end_block f
      by None eo =
          absurd (never (sym (ap (λ (o : Option Block). slice_get (instrs_in o) p.at) eo)
          ∙ instr_there f p.block p.at c.instr c.stands))
      by (Some b) eo = end_at p c b eo

pub ends_in_block : (e : Elision) (func : ℕ) → HasOneEnd (function_in e func) → EndsInBlock e func
ends_in_block e func one block at result must_tail ty args there =
    end_in_block (function_in e func) one (record { block = block; at = at })
    (record {
      instr = Instr.Call result must_tail ty (Callee.Intrinsic Intrinsic.CoroEnd) args;
      stands = there;
      is = refl;
    })
