-- What is made on the ways past a block that frees.
use Rattle.std.proofs.Common.{◌≡◌, ◌≢◌, ◌⊎◌, ◌∙◌, inl, inr, ⊎_elim, ℕ, Bool, true, false, List, [], ◌∷◌, Some, ap, refl, sym, subst}
use Rattle.std.proofs.lemmas.Bool.{false≢true}
use Rattle.std.specs.Prelude.{not, slice_get, ◌&&◌, ◌||◌, ◌==◌}
use Rattle.pass_elide_edges.proofs.pass_elide_proof.pass_proofs.ir_laws.facts.Truth.{and_first, and_second, itself}
use Rattle.pass_elide_reads.proofs.Diamonds.{IsSide}
use Rattle.pass_elide_reads.proofs.Regions.{past_free, to_pass}
use Rattle.pass_elide_reads.proofs.Used.{made_alone}
use Rattle.pass_elide_ready.proofs.Numbers.{GivesThere, gives_there}
use Rattle.pass_elide_ready.specs.Form.{Freeing, FreesSo, MeetsSo, gives_in, has_both, passed_by, passed_of}
use Rattle.pass_elide_ready.specs.pass_elide_proof.Places.{instrs_of}
use Rattle.pass_elide_ready.specs.pass_elide_proof.pass_proofs.flow_solver.Paths.{IsListed}
use Rattle.pass_elide_ready.specs.pass_elide_proof.pass_proofs.ir_model.declared.instr.Instr.{Instr}
use Rattle.pass_elide_ready.specs.pass_elide_proof.pass_proofs.ir_model.declared.module.Function.{Function}
use Rattle.pass_elide_ready.specs.pass_elide_proof.pass_proofs.ir_model.declared.module.Module.{Module}
use Rattle.pass_elide_ready.specs.pass_elide_proof.pass_proofs.ir_parts.Contents.{result_of}
use Rattle.pass_elide_ready.specs.pass_elide_proof.pass_proofs.rule_laws.rules.function_rules.Kept.{KeepsFunctionRules}
use Rattle.pass_elide_ready.specs.pass_elide_proof.pass_proofs.rule_uses.Undefined.{Next, ReachesWithout}

pub either_true : (a b : Bool) → (a || b) ≡ true → (a ≡ true) ⊎ (b ≡ true)
either_true true b e = inl refl
either_true false b e = inr e

-- right from the test to the block beside
pub passes_straight : (m : Module) (number : ℕ) (f : Function) (rules : KeepsFunctionRules m number f) (q : Freeing)
    (z : FreesSo f q) → q.after ≡ q.beside → (v given at : ℕ) (i : Instr)
    → slice_get (instrs_of f given) at ≡ Some i → result_of i ≡ Some v → given ≡ q.frees
    → ReachesWithout f v q.tests → ReachesWithout f v q.after
passes_straight m number f rules q z same v given at i there gives is reaches =
    subst (ReachesWithout f v) (sym same)
    (Next q.tests q.beside reaches
    (made_alone m number f rules v given at i there gives q.tests
    (λ e. (past_free m number f rules q z).apart_first (e ∙ is))) (to_pass m number f rules q z))

-- a name that is passed by is made on one of the ways
pub passed_ways : (f : Function) (q : Freeing) → FreesSo f q → (v : ℕ)
    → (q.after ≡ q.beside → GivesThere f q.frees v → ⊥)
    → (MeetsSo f q → (given : ℕ) → GivesThere f given v → IsSide q.frees q.after given → ⊥)
    → (MeetsSo f q → GivesThere f q.beside v → ⊥) → passed_by f q v ≡ true → ⊥
passed_ways f q z v straight over beside e = ⊎_elim
    (λ (g : gives_in f q.frees v ≡ true). frees (gives_there f q.frees v g))
    (λ (g : (has_both q && (gives_in f q.after v || gives_in f q.beside v)) ≡ true).
    behind (and_first (has_both q) (gives_in f q.after v || gives_in f q.beside v) g)
    (and_second (has_both q) (gives_in f q.after v || gives_in f q.beside v) g))
    (either_true (gives_in f q.frees v) (has_both q && (gives_in f q.after v || gives_in f q.beside v)) e)
  where
    frees : GivesThere f q.frees v → ⊥
    frees g = ⊎_elim (λ same. straight same g) (λ w. over w q.frees g (inl refl)) z.ways

    behind : has_both q ≡ true → (gives_in f q.after v || gives_in f q.beside v) ≡ true → ⊥
    behind both h = on z.ways
      where
        on : (q.after ≡ q.beside) ⊎ MeetsSo f q → ⊥
        on (inl same) = false≢true (sym (ap not (ap (λ (b : ℕ). q.after == b) (sym same) ∙ itself q.after)) ∙ both)
        on (inr w) = ⊎_elim
            (λ (g : gives_in f q.after v ≡ true). over w q.after (gives_there f q.after v g) (inr refl))
            (λ (g : gives_in f q.beside v ≡ true). beside w (gives_there f q.beside v g))
            (either_true (gives_in f q.after v) (gives_in f q.beside v) h)

-- one of the tests passes it by
pub none_passed : (f : Function) (qs : List Freeing) (v : ℕ) (ps : List Freeing)
    → ((q : Freeing) → IsListed q ps → IsListed q qs)
    → ((q : Freeing) → IsListed q qs → passed_by f q v ≡ true → ⊥) → passed_of f ps v ≡ true → ⊥
none_passed f qs v [] among not_passed e = false≢true e
none_passed f qs v (q ∷ ps) among not_passed e = ⊎_elim
    (λ (h : passed_by f q v ≡ true). not_passed q (among q (inl refl)) h)
    (λ (h : passed_of f ps v ≡ true). none_passed f qs v ps (λ p l. among p (inr l)) not_passed h)
    (either_true (passed_by f q v) (passed_of f ps v) e)
