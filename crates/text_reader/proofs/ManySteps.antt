-- Turns of a loop that reads one thing after another, as long as one begins.
use Rattle.std.proofs.Common.{◌≡◌, ℕ, zero, suc, ◌<◌, ◌≤◌, Bool, true, false, cond, List, [], ◌∷◌, ◌++◌, length, Option, None, refl, sym, ap, ◌∙◌, append_assoc, arith}
use Rattle.std.specs.Prelude.{Some}
use Rattle.std.proofs.lemmas.Bool.{ltb-true, lt-ltb}
use Rattle.ir_base.specs.declared.name.Name.{Name}
use Rattle.text_lexer.specs.Lists.{is_shorter}
use Rattle.text_reader.specs.Many.{after, many_up_to, many_at}
use Rattle.text_reader.specs.Reading.{◌>>=◌}
use Rattle.text_symbols.specs.declared.sym.Sym.{Sym}

module _ {A : Type 0} (begins : List Sym → Bool) (p : List Name → List Sym → Option (A × List Name × List Sym)) where
  abbrev Read : Type 0
  Read = Option (List A × List Name × List Sym)

  -- on behind what was read, where it took something
  abbrev on : ℕ → List Sym → A × List Name × List Sym → Bool → Read
  on n ts x b = cond b (after (x.0 ∷ []) (many_up_to begins p n x.1 x.2)) None

  abbrev go : ℕ → List Sym → A × List Name × List Sym → Read
  go n ts x = on n ts x (is_shorter x.2 ts)

  on_same : (n m : ℕ) (ts : List Sym) (x : A × List Name × List Sym) (b : Bool) → (b ≡ true → many_up_to begins p n x.1 x.2 ≡ many_up_to begins p m x.1 x.2) → on n ts x b ≡ on m ts x b
  on_same n m ts x true h = ap (after (x.0 ∷ [])) (h refl)
  on_same n m ts x false h = refl

  bind_same : (n m : ℕ) (ts : List Sym) (o : Option (A × List Name × List Sym)) → ((x : A × List Name × List Sym) → length x.2 < length ts → many_up_to begins p n x.1 x.2 ≡ many_up_to begins p m x.1 x.2) → (o >>= go n ts) ≡ (o >>= go m ts)
  bind_same n m ts None h = refl
  bind_same n m ts (Some x) h = on_same n m ts x (is_shorter x.2 ts) (λ e. h x (ltb-true (length x.2) (length ts) e))

  not_shorter : (n : ℕ) (ts : List Sym) (x : A × List Name × List Sym) (b : Bool) → is_shorter x.2 ts ≡ b → length ts ≤ length x.2 → on n ts x b ≡ None
  not_shorter n ts x true e more = let bad : length x.2 < length ts = ltb-true (length x.2) (length ts) e in absurd (omega arith)
  not_shorter n ts x false e more = refl

  bind_empty : (n : ℕ) (o : Option (A × List Name × List Sym)) → (o >>= go n []) ≡ None
  bind_empty n None = refl
  bind_empty n (Some x) = not_shorter n [] x (is_shorter x.2 []) refl (omega arith)

  -- how far a reader may go beyond what is left doesn't matter
  enough : (n m : ℕ) (ns : List Name) (ts : List Sym) → length ts ≤ n → length ts ≤ m → many_up_to begins p n ns ts ≡ many_up_to begins p m ns ts
  enough zero zero ns ts h k = refl
  enough zero (suc m) ns [] h k = ap (λ (r : Read). cond (begins []) r (Some ([], ns, []))) (sym (bind_empty m (p ns [])))
  enough zero (suc m) ns (t ∷ ts) h k = absurd (omega arith)
  enough (suc n) zero ns [] h k = ap (λ (r : Read). cond (begins []) r (Some ([], ns, []))) (bind_empty n (p ns []))
  enough (suc n) zero ns (t ∷ ts) h k = absurd (omega arith)
  enough (suc n) (suc m) ns ts h k =
      ap (λ (r : Read). cond (begins ts) r (Some ([], ns, ts))) (bind_same n m ts (p ns ts) (λ x less. enough n m x.1 x.2 (omega arith) (omega arith)))

  -- ---- the next one, a fault, and the end

  pub many-more : (ns ns' : List Name) (ts rest : List Sym) (x : A) → begins ts ≡ true → p ns ts ≡ Some (x, ns', rest) → length rest < length ts → many_at begins p ns ts ≡ after (x ∷ []) (many_at begins p ns' rest)
  many-more ns ns' [] rest x b e less = absurd (omega arith)
  many-more ns ns' (t ∷ ts) rest x b e less =
      ap (λ (c : Bool). cond c (p ns (t ∷ ts) >>= go (length ts) (t ∷ ts)) (Some ([], ns, t ∷ ts))) b
      ∙ ap (λ (o : Option (A × List Name × List Sym)). o >>= go (length ts) (t ∷ ts)) e
      ∙ ap (on (length ts) (t ∷ ts) (x, ns', rest)) (lt-ltb (length rest) (length (t ∷ ts)) less)
      ∙ ap (after (x ∷ [])) (enough (length ts) (length rest) ns' rest (omega arith) (omega arith))

  many-fault : (ns : List Name) (ts : List Sym) → begins ts ≡ true → p ns ts ≡ None → many_at begins p ns ts ≡ None
  many-fault ns [] b e = ap (λ (c : Bool). cond c None (Some ([], ns, []))) b
  many-fault ns (t ∷ ts) b e =
      ap (λ (c : Bool). cond c (p ns (t ∷ ts) >>= go (length ts) (t ∷ ts)) (Some ([], ns, t ∷ ts))) b
      ∙ ap (λ (o : Option (A × List Name × List Sym)). o >>= go (length ts) (t ∷ ts)) e

  many-stuck : (ns ns' : List Name) (ts rest : List Sym) (x : A) → begins ts ≡ true → p ns ts ≡ Some (x, ns', rest) → length ts ≤ length rest → many_at begins p ns ts ≡ None
  many-stuck ns ns' [] rest x b e more = ap (λ (c : Bool). cond c None (Some ([], ns, []))) b
  many-stuck ns ns' (t ∷ ts) rest x b e more =
      ap (λ (c : Bool). cond c (p ns (t ∷ ts) >>= go (length ts) (t ∷ ts)) (Some ([], ns, t ∷ ts))) b
      ∙ ap (λ (o : Option (A × List Name × List Sym)). o >>= go (length ts) (t ∷ ts)) e
      ∙ not_shorter (length ts) (t ∷ ts) (x, ns', rest) (is_shorter rest (t ∷ ts)) refl more

  pub many-end : (ns : List Name) (ts : List Sym) → begins ts ≡ false → many_at begins p ns ts ≡ Some ([], ns, ts)
  many-end ns [] b = ap (λ (c : Bool). cond c None (Some ([], ns, []))) b
  many-end ns (t ∷ ts) b = ap (λ (c : Bool). cond c (p ns (t ∷ ts) >>= go (length ts) (t ∷ ts)) (Some ([], ns, t ∷ ts))) b

  -- ---- the same for a loop, with the values so far

  after-after : (xs : List A) (x : A) (r : Read) → after xs (after (x ∷ []) r) ≡ after (xs ++ x ∷ []) r
  after-after xs x None = refl
  after-after xs x (Some r) = ap (λ (l : List A). Some (l, r.1, r.2)) (sym (append_assoc xs (x ∷ []) r.0))

  append_none : (xs : List A) → xs ++ [] ≡ xs
  append_none [] = refl
  append_none (x ∷ xs) = ap (λ (l : List A). x ∷ l) (append_none xs)

  pub many_turn : (whole : Read) (xs ys : List A) (ns ns' : List Name) (ts rest : List Sym) (x : A) → whole ≡ after xs (many_at begins p ns ts) → begins ts ≡ true → p ns ts ≡ Some (x, ns', rest) → length rest < length ts → ys ≡ xs ++ x ∷ [] → whole ≡ after ys (many_at begins p ns' rest)
  many_turn whole xs ys ns ns' ts rest x inv b e less items =
      inv ∙ ap (after xs) (many-more ns ns' ts rest x b e less) ∙ after-after xs x (many_at begins p ns' rest) ∙ ap (λ (l : List A). after l (many_at begins p ns' rest)) (sym items)

  pub many_done : (whole : Read) (xs : List A) (ns : List Name) (ts : List Sym) → whole ≡ after xs (many_at begins p ns ts) → begins ts ≡ false → whole ≡ Some (xs, ns, ts)
  many_done whole xs ns ts inv b = inv ∙ ap (after xs) (many-end ns ts b) ∙ ap (λ (l : List A). Some (l, ns, ts)) (append_none xs)

  pub many_fault : (whole : Read) (xs : List A) (ns : List Name) (ts : List Sym) → whole ≡ after xs (many_at begins p ns ts) → begins ts ≡ true → p ns ts ≡ None → whole ≡ None
  many_fault whole xs ns ts inv b e = inv ∙ ap (after xs) (many-fault ns ts b e)

  pub many_stuck : (whole : Read) (xs : List A) (ns ns' : List Name) (ts rest : List Sym) (x : A) → whole ≡ after xs (many_at begins p ns ts) → begins ts ≡ true → p ns ts ≡ Some (x, ns', rest) → length ts ≤ length rest → whole ≡ None
  many_stuck whole xs ns ns' ts rest x inv b e more = inv ∙ ap (after xs) (many-stuck ns ns' ts rest x b e more)

  -- nothing was read yet
  pub many_begun : (ns : List Name) (ts : List Sym) → many_at begins p ns ts ≡ after [] (many_at begins p ns ts)
  many_begun ns ts = split (many_at begins p ns ts)
    where
      split : (r : Read) → r ≡ after [] r
      split None = refl
      split (Some r) = refl
