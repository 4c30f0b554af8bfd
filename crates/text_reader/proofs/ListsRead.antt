-- One thing after another: what is read is of the grammar, and what is of the grammar is read.
use Rattle.std.proofs.Common.{◌≡◌, ℕ, zero, suc, ◌<◌, Bool, true, false, cond, List, [], ◌∷◌, length, Option, None, refl, sym, ap, subst, ◌∙◌}
use Rattle.std.specs.Prelude.{Some, IfSome}
use Rattle.ir_base.specs.declared.name.Name.{Name}
use Rattle.text_grammar.specs.Phrases.{Phrase, Naming, Locals, each}
use Rattle.text_lexer.specs.Lists.{when, front, is_shorter, up_to, all_at}
use Rattle.text_lexer.proofs.ListSteps.{all_at-some, all_at-none}
use Rattle.text_reader.specs.Many.{after, many_up_to, many_at}
use Rattle.text_reader.specs.Reading.{◌>>=◌}
use Rattle.text_symbols.specs.declared.sym.Sym.{Sym}
use Rattle.text_reader.proofs.ManySteps.{many-more, many-end}

-- ---- as long as there is one

when_found : {A : Type 0} (P : A → Phrase) (n : ℕ) (p : List Sym → Option (A × List Sym)) (ts : List Sym) (o : Option (A × List Sym)) → IfSome o (λ r. P r.0 ts r.1) → ((us : List Sym) → each P (up_to p n us).0 us (up_to p n us).1) → (f : A × List Sym → List A × List Sym) → ((x : A × List Sym) → f x ≡ cond (is_shorter x.1 ts) (front x.0 (up_to p n x.1)) ([], ts)) → each P (when o ([], ts) f).0 ts (when o ([], ts) f).1
when_found P n p ts None h more f e = refl
when_found {A} P n p ts (Some x) h more f e = subst (λ (r : List A × List Sym). each P r.0 ts r.1) (sym (e x)) (split (is_shorter x.1 ts))
  where
    split : (b : Bool) → each P (cond b (front x.0 (up_to p n x.1)) ([], ts)).0 ts (cond b (front x.0 (up_to p n x.1)) ([], ts)).1
    split true = (x.1, h, more x.1)
    split false = refl

up_to_found : {A : Type 0} (P : A → Phrase) (p : List Sym → Option (A × List Sym)) → ((ts : List Sym) → IfSome (p ts) (λ r. P r.0 ts r.1)) → (n : ℕ) (ts : List Sym) → each P (up_to p n ts).0 ts (up_to p n ts).1
up_to_found P p finds zero ts = refl
up_to_found P p finds (suc n) ts = when_found P n p ts (p ts) (finds ts) (up_to_found P p finds n) _ (λ x. refl)

pub all_found : {A : Type 0} (P : A → Phrase) (p : List Sym → Option (A × List Sym)) → ((ts : List Sym) → IfSome (p ts) (λ r. P r.0 ts r.1)) → (ts : List Sym) → each P (all_at p ts).0 ts (all_at p ts).1
all_found P p finds ts = up_to_found P p finds (length ts) ts

-- what a list begins with, where each thing does and what follows too
pub each_ends : {A : Type 0} (P : A → Phrase) (Ends : List Sym → Type 0) → ((x : A) (ts rest : List Sym) → P x ts rest → Ends ts) → (xs : List A) (ts rest : List Sym) → each P xs ts rest → Ends rest → Ends ts
each_ends P Ends starts [] ts rest h ends = subst Ends (sym h) ends
each_ends P Ends starts (x ∷ xs) ts rest h ends = starts x ts h.0 h.1

pub all_again : {A : Type 0} (P : A → Phrase) (p : List Sym → Option (A × List Sym)) (Ends : List Sym → Type 0) → ((x : A) (ts rest : List Sym) → P x ts rest → length rest < length ts) → ((x : A) (ts rest : List Sym) → P x ts rest → Ends rest → p ts ≡ Some (x, rest)) → ((x : A) (ts rest : List Sym) → P x ts rest → Ends ts) → (xs : List A) (ts rest : List Sym) → each P xs ts rest → Ends rest → p rest ≡ None → all_at p ts ≡ (xs, rest)
all_again P p Ends takes again starts [] ts rest h ends stop = ap (all_at p) h ∙ all_at-none p rest stop
all_again P p Ends takes again starts (x ∷ xs) ts rest h ends stop =
    all_at-some p ts x h.0 (again x ts h.0 h.1 (each_ends P Ends starts xs h.0 rest h.2 ends)) (takes x ts h.0 h.1)
    ∙ ap (front x) (all_again P p Ends takes again starts xs h.0 rest h.2 ends stop)

-- ---- as long as one begins, with the names of locals so far

module _ {A : Type 0} (P : A → Naming) (begins : List Sym → Bool) (p : List Name → List Sym → Option (A × List Name × List Sym)) where
  abbrev pub FindsLocals : Type 0
  FindsLocals = (ns : List Name) (ts : List Sym) → IfSome (p ns ts) (λ r. P r.0 (ns, ts) (r.1, r.2))

  abbrev Finds : Locals → Option (List A × List Name × List Sym) → Type 0
  Finds s o = IfSome o (λ r. each P r.0 s (r.1, r.2))

  after_found : (x : A) (s m : Locals) (o : Option (List A × List Name × List Sym)) → P x s m → Finds m o → Finds s (after (x ∷ []) o)
  after_found x s m None h k = tt
  after_found x s m (Some r) h k = (m, h, k)

  shorter_found : (b : Bool) (s : Locals) (o : Option (List A × List Name × List Sym)) → Finds s o → Finds s (cond b o None)
  shorter_found true s o h = h
  shorter_found false s o h = tt

  step_found : (s : Locals) (o : Option (A × List Name × List Sym)) (n : ℕ) → IfSome o (λ r. P r.0 s (r.1, r.2)) → ((ns : List Name) (ts : List Sym) → Finds (ns, ts) (many_up_to begins p n ns ts)) → Finds s (o >>= λ x. cond (is_shorter x.2 s.1) (after (x.0 ∷ []) (many_up_to begins p n x.1 x.2)) None)
  step_found s None n h more = tt
  step_found s (Some x) n h more = shorter_found (is_shorter x.2 s.1) s _ (after_found x.0 s (x.1, x.2) (many_up_to begins p n x.1 x.2) h (more x.1 x.2))

  begins_found : (b : Bool) (s : Locals) (o : Option (List A × List Name × List Sym)) → Finds s o → Finds s (cond b o (Some ([], s.0, s.1)))
  begins_found true s o h = h
  begins_found false s o h = refl

  up_to_many : FindsLocals → (n : ℕ) (ns : List Name) (ts : List Sym) → Finds (ns, ts) (many_up_to begins p n ns ts)
  up_to_many finds zero ns ts = begins_found (begins ts) (ns, ts) None tt
  up_to_many finds (suc n) ns ts = begins_found (begins ts) (ns, ts) _ (step_found (ns, ts) (p ns ts) n (finds ns ts) (up_to_many finds n))

  pub many_found : FindsLocals → (ns : List Name) (ts : List Sym) → IfSome (many_at begins p ns ts) (λ r. each P r.0 (ns, ts) (r.1, r.2))
  many_found finds ns ts = up_to_many finds (length ts) ns ts

  pub many_again : (Ends : List Sym → Type 0) → ((x : A) (s end : Locals) → P x s end → length end.1 < length s.1) → ((x : A) (s end : Locals) → P x s end → Ends end.1 → p s.0 s.1 ≡ Some (x, end.0, end.1)) → ((x : A) (s end : Locals) → P x s end → begins s.1 ≡ true) → ((x : A) (s end : Locals) → P x s end → Ends s.1) → (xs : List A) (s end : Locals) → each P xs s end → Ends end.1 → begins end.1 ≡ false → many_at begins p s.0 s.1 ≡ Some (xs, end.0, end.1)
  many_again Ends takes again front ends [] s end h stop off =
      ap (λ (x : Locals). many_at begins p x.0 x.1) h ∙ many-end begins p end.0 end.1 off
  many_again Ends takes again front ends (x ∷ xs) s end h stop off =
      many-more begins p s.0 h.0.0 s.1 h.0.1 x (front x s h.0 h.1) (again x s h.0 h.1 (next xs h.0 h.2)) (takes x s h.0 h.1)
      ∙ ap (after (x ∷ [])) (many_again Ends takes again front ends xs h.0 end h.2 stop off)
    where
      next : (ys : List A) (m : Locals) → each P ys m end → Ends m.1
      next [] m k = subst (λ (l : Locals). Ends l.1) (sym k) stop
      next (y ∷ ys) m k = ends y m k.0 k.1
