-- Two tables of facts that say the same.
use Rattle.std.proofs.Common.{◌≡◌, ℕ, zero, suc, ◌<◌, ◌≤◌, Bool, true, false, ◌&&◌, List, [], ◌∷◌, length, refl, sym, ap, subst, ◌∙◌, arith, Option, Some, ⊎_elim}
use Rattle.std.specs.Prelude.{map, not, slice_get, unwrap_or}
use Rattle.std.specs.List.{AllByRecursion}
use Rattle.std.proofs.lemmas.Bool.{false≢true, cases_lt}
use Rattle.std.proofs.lemmas.List.Elements.{recursion_from_All}
use Rattle.std.proofs.lemmas.List.{length-map}
use Rattle.std.proofs.lemmas.Option.{slice_get_past}
use Rattle.ir_model.specs.declared.module.Function.{Function}
use Rattle.ir_paths.specs.Facts.{AreFactsOf, IsWindow, facts_of}
use Rattle.ir_paths.specs.Paths.{has_point, same_point}
use Rattle.ir_paths.specs.Slots.{has_name}
use Rattle.ir_paths.specs.Windows.{IsInWindow, leaves}
use Rattle.ir_paths.specs.declared.point.Facts.{Facts}
use Rattle.ir_paths.specs.declared.point.Point.{Point}
use Rattle.ir_paths.specs.declared.point.Window.{Window}
use Rattle.ir_paths.proofs.Right.{facts_of_right}
use Rattle.run_source_tables.specs.Given.{facts_at}
use Rattle.flow_facts.specs.HaveFacts.{HaveFacts}

pub record SameWindow (a b : Window) : Type 0 where
  pub save : a.save ≡ b.save
  pub suspend : a.suspend ≡ b.suspend
  pub inside : (p : Point) → has_point a.inside p ≡ has_point b.inside p

abbrev pub SameWindows : List Window → List Window → Type 0
SameWindows [] [] = Unit {0}
SameWindows [] (b ∷ ys) = ⊥
SameWindows (a ∷ xs) [] = ⊥
SameWindows (a ∷ xs) (b ∷ ys) = SameWindow a b × SameWindows xs ys

pub record SameFacts (a b : Facts) : Type 0 where
  pub windows : SameWindows a.windows b.windows
  pub ramp_slots : (v : ℕ) → has_name a.ramp_slots v ≡ has_name b.ramp_slots v

same_test : (a b : Bool) → (a ≡ true → b ≡ true) → (b ≡ true → a ≡ true) → a ≡ b
same_test true true f g = refl
same_test true false f g = absurd (false≢true (f refl))
same_test false true f g = absurd (false≢true (g refl))
same_test false false f g = refl

-- windows of the same save and suspend
window-same : (f : Function) (a b : Window) → a.save ≡ b.save → a.suspend ≡ b.suspend → IsWindow f a → IsWindow f b → SameWindow a b
window-same f a b e u ha hb =
    record {
      save = e;
      suspend = u;
      inside = λ p. same_test (has_point a.inside p) (has_point b.inside p)
          (λ h. (hb.inside p).1 (subst (λ (y : Point). IsInWindow f y b.suspend p) e (subst (λ (y : Point). IsInWindow f a.save y p) u ((ha.inside p).0 h))))
          (λ h. (ha.inside p).1 (subst (λ (y : Point). IsInWindow f y a.suspend p) (sym e) (subst (λ (y : Point). IsInWindow f b.save y p) (sym u) ((hb.inside p).0 h))));
    }

abbrev pub saves_in : List Window → List (Point × Point)
saves_in ws = map (λ (w : Window). (w.save, w.suspend)) ws

first-same : (x y : Point × Point) (xs ys : List (Point × Point)) → x ∷ xs ≡ y ∷ ys → x ≡ y
first-same x y xs ys e = cc

rest-same : (x y : Point × Point) (xs ys : List (Point × Point)) → x ∷ xs ≡ y ∷ ys → xs ≡ ys
rest-same x y xs ys e = cc

pub windows-same : (f : Function) (xs ys : List Window) → saves_in xs ≡ saves_in ys → AllByRecursion (IsWindow f) xs → AllByRecursion (IsWindow f) ys → SameWindows xs ys
windows-same f [] [] e ha hb = tt
windows-same f [] (b ∷ ys) e ha hb = absurd (cc)
windows-same f (a ∷ xs) [] e ha hb = absurd (cc)
windows-same f (a ∷ xs) (b ∷ ys) e ha hb =
    let head = first-same (a.save, a.suspend) (b.save, b.suspend) (saves_in xs) (saves_in ys) e in
    (window-same f a b (ap (λ (x : Point × Point). x.0) head) (ap (λ (x : Point × Point). x.1) head) ha.0 hb.0, windows-same f xs ys (rest-same (a.save, a.suspend) (b.save, b.suspend) (saves_in xs) (saves_in ys) e) ha.1 hb.1)

pub facts-same : (f : Function) (a b : Facts) → AreFactsOf f a → AreFactsOf f b → SameFacts a b
facts-same f a b ha hb =
    record {
      windows = windows-same f a.windows b.windows (ha.saves ∙ sym hb.saves) (recursion_from_All (IsWindow f) a.windows ha.windows) (recursion_from_All (IsWindow f) b.windows hb.windows);
      ramp_slots = λ v. same_test (has_name a.ramp_slots v) (has_name b.ramp_slots v) (λ h. (hb.ramp_slots v).1 ((ha.ramp_slots v).0 h)) (λ h. (ha.ramp_slots v).1 ((hb.ramp_slots v).0 h));
    }

pub no-facts : SameFacts (record { windows = []; ramp_slots = [] }) (record { windows = []; ramp_slots = [] })
no-facts = record { windows = tt; ramp_slots = λ v. refl }

pub get_map : {A B : Type 0} (f : A → B) (xs : List A) (i : ℕ) (x : A) → slice_get xs i ≡ Some x → slice_get (map f xs) i ≡ Some (f x)
get_map f [] i x e = absurd (cc)
get_map f (y ∷ xs) zero x e = let same : y ≡ x = cc in ap (λ z. Some (f z)) same
get_map f (y ∷ xs) (suc i) x e = get_map f xs i x e

pub some-at : {A : Type 0} (xs : List A) (i : ℕ) → i < length xs → (x : A) × (slice_get xs i ≡ Some x)
some-at [] i lt = absurd (omega arith)
some-at (x ∷ xs) zero lt = (x, refl)
some-at (x ∷ xs) (suc i) lt = some-at xs i (omega arith)

-- facts that were found say what those of the paths do
pub table-same : (functions : List Function) (facts : List Facts) → HaveFacts functions facts → (func : ℕ) → SameFacts (facts_at facts func) (facts_at (map facts_of functions) func)
table-same functions facts h func = ⊎_elim within past (cases_lt func (length functions))
  where
    within : func < length functions → SameFacts (facts_at facts func) (facts_at (map facts_of functions) func)
    within lt =
        let count = h.count in
        let f = some-at functions func lt in
        let own = some-at facts func (omega (arith, count, lt)) in
        let there : slice_get (map facts_of functions) func ≡ Some (facts_of f.0) = get_map facts_of functions func f.0 f.1 in
        subst (λ (o : Option Facts). SameFacts (unwrap_or o (record { windows = []; ramp_slots = [] })) (facts_at (map facts_of functions) func)) (sym own.1)
        (subst (λ (o : Option Facts). SameFacts own.0 (unwrap_or o (record { windows = []; ramp_slots = [] }))) (sym there)
        (facts-same f.0 own.0 (facts_of f.0) (h.each func f.0 own.0 f.1 own.1) (facts_of_right f.0)))

    past : length functions ≤ func → SameFacts (facts_at facts func) (facts_at (map facts_of functions) func)
    past le =
        let count = h.count in
        let len = length-map functions facts_of in
        subst (λ (o : Option Facts). SameFacts (unwrap_or o (record { windows = []; ramp_slots = [] })) (facts_at (map facts_of functions) func)) (sym (slice_get_past facts func (omega (arith, count, le))))
        (subst (λ (o : Option Facts). SameFacts (record { windows = []; ramp_slots = [] }) (unwrap_or o (record { windows = []; ramp_slots = [] }))) (sym (slice_get_past (map facts_of functions) func (omega (arith, len, le))))
        no-facts)

-- ---- edges out of windows

pub leaves-same : (p q : Point) (a b : Window) → SameWindow a b → leaves p q a ≡ leaves p q b
leaves-same p q a b s =
    ap (λ t. t && not (has_point a.inside q) && not (same_point q a.suspend)) (s.inside p)
    ∙ ap (λ t. has_point b.inside p && not t && not (same_point q a.suspend)) (s.inside q)
    ∙ ap (λ (y : Point). has_point b.inside p && not (has_point b.inside q) && not (same_point q y)) s.suspend
