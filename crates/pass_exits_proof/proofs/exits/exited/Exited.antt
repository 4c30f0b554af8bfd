-- The module whose coroutines have blocks on the edges that leave their windows: what is known of its functions is what was.
use Rattle.std.proofs.Common.{◌≡◌, ℕ, zero, suc, Bool, true, false, List, [], ◌∷◌, refl, sym, ap, ◌∙◌, subst}
use Rattle.std.specs.Prelude.{Option, Some, codes, map, option_map, slice_get, if◌then◌else◌}
use Rattle.pass_fetch_proof.specs.ir_base.declared.name.Name.{Name}
use Rattle.pass_fetch_proof.specs.ir_laws.facts.function_rules.Signatures.{HaveSameSignatures, heading}
use Rattle.ir_model.specs.Names.{first_where, function_named, same_name}
use Rattle.ir_model.specs.Ty.{Ty}
use Rattle.ir_model.specs.declared.module.Function.{Function}
use Rattle.ir_model.specs.declared.module.Module.{Module}
use Rattle.ir_model.specs.declared.module.Param.{Param}
use Rattle.pass_fetch_proof.specs.rule_names.Reserved.{part_name}
use Rattle.pass_fetch_proof.specs.rule_laws.frames.same_names.Parts.{HasPart, HasPartsOf, HasSignature}
use Rattle.pass_split.specs.pass_exits.ExitBlocks.{with_exit_blocks}

abbrev pub exited : Function → Function
exited f = if f.coroutine then with_exit_blocks f else f

abbrev pub exited_module : Module → Module
exited_module m = record { types = m.types; globals = m.globals; declarations = m.declarations; functions = map exited m.functions }

-- ---- functions, one for one

record IsLike (f g : Function) : Type 0 where
  pub name : g.name ≡ f.name
  pub result : g.result ≡ f.result
  pub params : g.params ≡ f.params
  pub coroutine : g.coroutine ≡ f.coroutine

exited_like : (f : Function) → IsLike f (exited f)
exited_like f = on f.coroutine
  where
    on : (b : Bool) → IsLike f (if b then with_exit_blocks f else f)
    on true = record { name = refl; result = refl; params = refl; coroutine = refl }
    on false = record { name = refl; result = refl; params = refl; coroutine = refl }

record ComesExited (fs : List Function) (k : ℕ) (g : Function) : Type 0 where
  pub source : Function
  pub stands : slice_get fs k ≡ Some source
  pub is : exited source ≡ g

source_of : (fs : List Function) (k : ℕ) (g : Function) → slice_get (map exited fs) k ≡ Some g → ComesExited fs k g
source_of [] k g e = absurd (cc)
source_of (f ∷ fs) zero g e = let same : exited f ≡ g = cc in record { source = f; stands = refl; is = same }
source_of (f ∷ fs) (suc k) g e = let r = source_of fs k g e in record { source = r.source; stands = r.stands; is = r.is }

stands_exited : (fs : List Function) (k : ℕ) (f : Function) → slice_get fs k ≡ Some f → slice_get (map exited fs) k ≡ Some (exited f)
stands_exited [] k f e = absurd (cc)
stands_exited (x ∷ fs) zero f e = let same : x ≡ f = cc in ap (λ (y : Function). Some (exited y)) same
stands_exited (x ∷ fs) (suc k) f e = stands_exited fs k f e

pub coroutine_stands : (m : Module) (k : ℕ) (f : Function) → slice_get m.functions k ≡ Some f → f.coroutine ≡ true → slice_get (exited_module m).functions k ≡ Some (with_exit_blocks f)
coroutine_stands m k f e c = stands_exited m.functions k f e ∙ ap (λ (b : Bool). Some (if b then with_exit_blocks f else f)) c

found_same : (x : Name) (fs : List Function) → first_where (λ f. same_name f.name x) (map exited fs) ≡ first_where (λ f. same_name f.name x) fs
found_same x [] = refl
found_same x (f ∷ fs) = λ i. if same_name ((exited_like f).name i) x then Some 0 else option_map suc (found_same x fs i)

function_same : (m : Module) (x : Name) → function_named (exited_module m) x ≡ function_named m x
function_same m x = found_same x m.functions

signature_of : (n : Module) (x : Name) (f g : Function) → IsLike f g → HasSignature n x f.result (map (λ p. p.ty) f.params) → HasSignature n x g.result (map (λ p. p.ty) g.params)
signature_of n x f g h s =
    subst (λ (r : Option Ty). HasSignature n x r (map (λ p. p.ty) g.params)) (sym h.result)
    (subst (λ (ps : List Param). HasSignature n x f.result (map (λ p. p.ty) ps)) (sym h.params) s)

pub parts_exited : (m n : Module) → HasPartsOf m n → HasPartsOf (exited_module m) n
parts_exited m n h =
    record {
      types = h.types;
      globals = h.globals;
      declarations = h.declarations;
      functions = λ x k g there stands.
          let r = source_of m.functions k g stands in
          let like : IsLike r.source g = subst (IsLike r.source) r.is (exited_like r.source) in
          signature_of n x r.source g like (h.functions x k r.source (sym (function_same m x) ∙ there) r.stands);
      others = λ x none there. h.others x (sym (function_same m x) ∙ none) there;
      resumes = λ k g stands c.
          let r = source_of m.functions k g stands in
          let like : IsLike r.source g = subst (IsLike r.source) r.is (exited_like r.source) in
          subst (λ (x : Name). HasPart n (part_name x (codes ".resume"))) (sym like.name) (h.resumes k r.source r.stands (sym like.coroutine ∙ c));
      destroys = λ k g stands c.
          let r = source_of m.functions k g stands in
          let like : IsLike r.source g = subst (IsLike r.source) r.is (exited_like r.source) in
          subst (λ (x : Name). HasPart n (part_name x (codes ".destroy"))) (sym like.name) (h.destroys k r.source r.stands (sym like.coroutine ∙ c));
    }

headings_same : (fs : List Function) → map heading (map exited fs) ≡ map heading fs
headings_same [] = refl
headings_same (f ∷ fs) =
    let like = exited_like f in
    λ i. record { name = like.name i; result = like.result i; params = map (λ p. p.ty) (like.params i) } ∷ headings_same fs i

pub signatures_same : (m : Module) → HaveSameSignatures m (exited_module m)
signatures_same m = record { types = refl; globals = refl; declarations = refl; functions = headings_same m.functions }
