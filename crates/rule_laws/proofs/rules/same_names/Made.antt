-- The names of the functions that a function becomes, and that those of a module are distinct.
use Rattle.std.proofs.Common.{◌≡◌, ⊎_elim, ℕ, suc, Bool, true, false, List, [], ◌∷◌, ◌++◌, refl, sym, ap, ◌∙◌, arith, Some}
use Rattle.std.proofs.lemmas.Bool.{or_parts}
use Rattle.std.specs.Prelude.{codes, map, slice_get, if◌then◌else◌, ◌&&◌}
use Rattle.std.specs.List.{list_any}
use Rattle.ir_laws.specs.ir_base.declared.name.Name.{Name}
use Rattle.ir_laws.specs.ir_model.Names.{function_named, same_name, same_text}
use Rattle.ir_laws.specs.ir_model.declared.module.Function.{Function}
use Rattle.ir_laws.specs.ir_model.declared.module.Module.{Module}
use Rattle.rule_names.specs.Reserved.{is_odd, is_part, is_part_of, is_reserved, is_taken, part_name, suffixes}
use Rattle.rule_names.specs.declared.stage.Stage.{Stage}
use Rattle.rule_laws.proofs.rules.plain_rules.Once.{once_at}
use Rattle.rule_laws.specs.rules.plain_rules.Items.{AreNamesFree}
use Rattle.ir_laws.proofs.facts.Lists.{AreDistinct, StandsIn, distinct_joined, of_both, of_more, of_none}
use Rattle.rule_laws.proofs.rules.same_names.Spellings.{IsSuffix, OfCleanup, OfDestroy, OfNoalloc, OfResume, never_same, parts_alike, suffixes_alike}
use Rattle.ir_laws.specs.facts.same_names.Short.{HaveShortNames}
use Rattle.ir_laws.proofs.ir_tables.Tables.{same_text-refl}
use Rattle.ir_laws.specs.run_laws.changed.Changed.{Each}

-- ---- what a function becomes

abbrev pub resume_of : Function → Name
resume_of f = part_name f.name (codes ".resume")

abbrev pub destroy_of : Function → Name
destroy_of f = part_name f.name (codes ".destroy")

abbrev pub cleanup_of : Function → Name
cleanup_of f = part_name f.name (codes ".cleanup")

-- the suffixes of the parts of a coroutine, some of whose frames are given or none
abbrev pub part_suffixes : Bool → List (List ℕ)
part_suffixes given = codes ".resume" ∷ codes ".destroy" ∷ (if given then codes ".cleanup" ∷ codes ".noalloc" ∷ [] else [])

abbrev pub made_names : Bool → Function → List Name
made_names given f = f.name ∷ (if f.coroutine then map (part_name f.name) (part_suffixes given) else [])

abbrev pub all_names : (Function → Bool) → List Function → List Name
all_names given [] = []
all_names given (f ∷ fs) = made_names (given f) f ++ all_names given fs

-- the name of one of the functions that a function becomes
pub data IsMade (f : Function) (x : Name) : Type 0 where
  Own : f.name ≡ x → IsMade f x
  Part : (w : List ℕ) → IsSuffix w → f.coroutine ≡ true → part_name f.name w ≡ x → IsMade f x

are_suffixes : (given : Bool) → Each IsSuffix (part_suffixes given)
are_suffixes true = (OfResume, (OfDestroy, (OfCleanup, (OfNoalloc, tt))))
are_suffixes false = (OfResume, (OfDestroy, tt))

one_of_parts : (f : Function) (x : Name) → f.coroutine ≡ true → (ws : List (List ℕ)) → Each IsSuffix ws → StandsIn (map (part_name f.name) ws) x → IsMade f x
one_of_parts f x c [] h there = absurd (of_none there)
one_of_parts f x c (w ∷ ws) h there = ⊎_elim (Part w h.0 c) (one_of_parts f x c ws h.1) (of_more (part_name f.name w) (map (part_name f.name) ws) x there)

pub is_made : (given : Bool) (f : Function) (x : Name) → StandsIn (made_names given f) x → IsMade f x
is_made given f x h = ⊎_elim Own (on f.coroutine refl) (of_more f.name (if f.coroutine then map (part_name f.name) (part_suffixes given) else []) x h)
  where
    on : (b : Bool) → f.coroutine ≡ b → StandsIn (if b then map (part_name f.name) (part_suffixes given) else []) x → IsMade f x
    on true c there = one_of_parts f x c (part_suffixes given) (are_suffixes given) there
    on false c there = absurd (of_none there)

-- a function of the list becomes one of this name
pub record IsMadeIn (fs : List Function) (x : Name) : Type 0 where
  pub position : ℕ
  pub source : Function
  pub stands : slice_get fs position ≡ Some source
  pub is : IsMade source x

pub made_in : (given : Function → Bool) (fs : List Function) (x : Name) → StandsIn (all_names given fs) x → IsMadeIn fs x
made_in given [] x h = absurd (of_none h)
made_in given (f ∷ fs) x h =
    ⊎_elim
    (λ here. record { position = 0; source = f; stands = refl; is = is_made (given f) f x here })
    (λ there. let r = made_in given fs x there in record { position = suc r.position; source = r.source; stands = r.stands; is = r.is })
    (of_both (made_names (given f) f) (all_names given fs) h.at x h.is)

-- ---- what the rules on names say of a source

any_out : {A : Type 0} (test : A → Bool) (xs : List A) → list_any test xs ≡ false → (k : ℕ) (x : A) → slice_get xs k ≡ Some x → test x ≡ false
any_out test [] e k x there = absurd (cc)
any_out test (y ∷ xs) e k x there = ⊎_elim (λ is_one. ap test (sym is_one) ∙ (or_parts (test y) (list_any test xs) e).0) (λ more. any_out test xs (or_parts (test y) (list_any test xs) e).1 more.at x more.is) (of_more y xs x (record { at = k; is = there }))

-- what is the name of no part differs from those of each coroutine's parts
pub not_part : (m : Module) (x : Name) → is_part m x ≡ false → (k : ℕ) (f : Function) → slice_get m.functions k ≡ Some f → f.coroutine ≡ true → (w : List ℕ) → IsSuffix w → part_name f.name w ≡ x → ⊥
not_part m x e k f there c w suffix = never_same (part_name f.name w) x (on w suffix)
  where
    none : list_any (λ s. same_name (part_name f.name s) x) suffixes ≡ false
    none = ap (λ (b : Bool). b && list_any (λ s. same_name (part_name f.name s) x) suffixes) (sym c) ∙ any_out (is_part_of x) m.functions e k f there

    on : (v : List ℕ) → IsSuffix v → same_name (part_name f.name v) x ≡ false
    on _ OfResume = any_out (λ s. same_name (part_name f.name s) x) suffixes none 0 (codes ".resume") refl
    on _ OfDestroy = any_out (λ s. same_name (part_name f.name s) x) suffixes none 1 (codes ".destroy") refl
    on _ OfCleanup = any_out (λ s. same_name (part_name f.name s) x) suffixes none 2 (codes ".cleanup") refl
    on _ OfNoalloc = any_out (λ s. same_name (part_name f.name s) x) suffixes none 3 (codes ".noalloc") refl

-- what is asked of the name of a function of a source
pub record IsFree (m : Module) (f : Function) : Type 0 where
  pub is_free : is_reserved f.name ≡ false
  pub is_no_part : is_part m f.name ≡ false
  pub is_usual : f.coroutine ≡ true → is_odd f.name ≡ false

pub free_name : (m : Module) → AreNamesFree Stage.Source m → (k : ℕ) (f : Function) → slice_get m.functions k ≡ Some f → IsFree m f
free_name m h k f there =
    let first = or_parts (is_reserved f.name) (is_taken m f) (h.free k f there) in
    let second = or_parts (is_part m f.name) (f.coroutine && is_odd f.name) first.1 in
    record { is_free = first.0; is_no_part = second.0; is_usual = λ c. ap (λ (b : Bool). b && is_odd f.name) (sym c) ∙ second.1 }

-- ---- distinct names

module _ (m : Module) (h : AreNamesFree Stage.Source m) (short : HaveShortNames m) where
  same_place : (j k : ℕ) (f g : Function) → slice_get m.functions j ≡ Some f → slice_get m.functions k ≡ Some g → f.name ≡ g.name → j ≡ k
  same_place j k f g here there e =
      let both : Some j ≡ Some k = sym (once_at m j f.name (h.once j f here)).function ∙ ap (function_named m) e ∙ (once_at m k g.name (h.once k g there)).function in
      cc

  apart : (j k : ℕ) (f g : Function) (x : Name) → slice_get m.functions j ≡ Some f → slice_get m.functions k ≡ Some g → IsMade f x → IsMade g x → j ≡ k
  apart j k f g x here there (Own e) (Own d) = same_place j k f g here there (e ∙ sym d)
  apart j k f g x here there (Own e) (Part w q c d) = absurd (not_part m f.name (free_name m h j f here).is_no_part k g there c w q (d ∙ sym e))
  apart j k f g x here there (Part v p c e) (Own d) = absurd (not_part m g.name (free_name m h k g there).is_no_part j f here c v p (e ∙ sym d))
  apart j k f g x here there (Part v p c e) (Part w q b d) =
      same_place j k f g here there
      (parts_alike f.name g.name v w p q (short j f here) (short k g there) ((free_name m h j f here).is_usual c) ((free_name m h k g there).is_usual b) (e ∙ sym d))

  -- parts of one coroutine with other suffixes have other names
  part_differs : (a : Name) (v : List ℕ) → IsSuffix v → (ws : List (List ℕ)) → Each IsSuffix ws → (StandsIn ws v → ⊥) → StandsIn (map (part_name a) ws) (part_name a v) → ⊥
  part_differs a v p [] h never x = of_none x
  part_differs a v p (w ∷ ws) h never x =
      ⊎_elim
      (λ e. never (record { at = 0; is = ap (λ (u : List ℕ). Some u) (suffixes_alike a a w v h.0 p e) }))
      (part_differs a v p ws h.1 (λ y. never (record { at = suc y.at; is = y.is })))
      (of_more (part_name a w) (map (part_name a) ws) (part_name a v) x)

  abbrev AreOther : List (List ℕ) → Type 0
  AreOther [] = Unit {0}
  AreOther (w ∷ ws) = (StandsIn ws w → ⊥) × AreOther ws

  parts_distinct : (a : Name) (ws : List (List ℕ)) → Each IsSuffix ws → AreOther ws → AreDistinct (map (part_name a) ws)
  parts_distinct a [] h d = tt
  parts_distinct a (w ∷ ws) h d = (part_differs a w h.0 ws h.1 d.0, parts_distinct a ws h.1 d.1)

  none_of : (v : List ℕ) (ws : List (List ℕ)) → list_any (λ w. same_text w v) ws ≡ false → StandsIn ws v → ⊥
  none_of v ws e x = let bad : false ≡ true = sym (any_out (λ w. same_text w v) ws e x.at v x.is) ∙ same_text-refl v in absurd (cc)

  suffixes_distinct : (given : Bool) → AreOther (part_suffixes given)
  suffixes_distinct true = (none_of _ _ refl, (none_of _ _ refl, (none_of _ _ refl, (none_of _ _ refl, tt))))
  suffixes_distinct false = (none_of _ _ refl, (none_of _ _ refl, tt))

  own_distinct : (given : Bool) (k : ℕ) (f : Function) → slice_get m.functions k ≡ Some f → AreDistinct (made_names given f)
  own_distinct given k f there = on f.coroutine refl
    where
      on : (b : Bool) → f.coroutine ≡ b → AreDistinct (f.name ∷ (if b then map (part_name f.name) (part_suffixes given) else []))
      on true c = (
        own_differs (part_suffixes given) (are_suffixes given),
        parts_distinct f.name (part_suffixes given) (are_suffixes given) (suffixes_distinct given),
      )
        where
          own_differs : (ws : List (List ℕ)) → Each IsSuffix ws → StandsIn (map (part_name f.name) ws) f.name → ⊥
          own_differs [] q x = of_none x
          own_differs (w ∷ ws) q x =
              ⊎_elim (not_part m f.name (free_name m h k f there).is_no_part k f there c w q.0) (own_differs ws q.1) (of_more (part_name f.name w) (map (part_name f.name) ws) f.name x)
      on false c = (of_none, tt)

  pub all_distinct : (given : Function → Bool) → AreDistinct (all_names given m.functions)
  all_distinct given = each m.functions (λ k f there. own_distinct (given f) k f there) apart
    where
      each : (fs : List Function) → ((k : ℕ) (f : Function) → slice_get fs k ≡ Some f → AreDistinct (made_names (given f) f)) → ((j k : ℕ) (f g : Function) (x : Name) → slice_get fs j ≡ Some f → slice_get fs k ≡ Some g → IsMade f x → IsMade g x → j ≡ k) → AreDistinct (all_names given fs)
      each [] own once = tt
      each (f ∷ fs) own once =
          distinct_joined (made_names (given f) f) (all_names given fs) (own 0 f refl)
          (each fs (λ k g there. own (suc k) g there) (λ j k a b x here there p q. let e : suc j ≡ suc k = once (suc j) (suc k) a b x here there p q in omega (arith, e)))
          (λ x here there. let r = made_in given fs x there in let e : 0 ≡ suc r.position = once 0 (suc r.position) f r.source x refl r.stands (is_made (given f) f x here) r.is in absurd (cc))
