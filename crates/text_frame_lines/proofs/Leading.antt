-- Frame comments are read back as what was written.
use Rattle.std.proofs.Common.{◌≡◌, ℕ, ◌+◌, ◌-◌, ◌/◌, ◌%◌, ◌^◌, ◌<◌, ◌≤◌, Bool, true, false, not, ◌==◌, ◌&&◌, ◌||◌, nat_lt, nat_le, nat_eq, List, [], ◌∷◌, ◌++◌, length, take, drop, refl, sym, ap, ◌∙◌, append_assoc, append-nil, arith, decimal, eq-eqb}
use Rattle.std.specs.Prelude.{codes}
use Rattle.std.proofs.Common.{length-append, None, Option, Some, subst}
use Rattle.std.proofs.Math.Seq.{drop-append_seam, take-append_seam}
use Rattle.std.specs.List.{list_all}
use Rattle.std.specs.Str.Parse.{AllDigits}
use Rattle.std.proofs.lemmas.Bool.{eqb-true, false≢true, or_left, or_parts, and_parts, and_from}
use Rattle.std.proofs.lemmas.Bool.Decides.{nat_tests}
use Rattle.std.proofs.lemmas.Fmt.{decimal_is_IsNumeral}
use Rattle.std.proofs.lemmas.Str.Parse.{digit_from_value}
use Rattle.ir_base.specs.declared.name.Name.{Name}
use Rattle.text_names.specs.Spelling.{IsName, escaped, hex_digit, inside, is_bare, is_digit, is_plain, is_start, spelling, text_spelling}
use Rattle.text_frame_lines.specs.Frames.{AreFrames, IsFrame, Lead, begins_comment, frame_line, frames_text, number_text}
use Rattle.text_canonical.specs.canonical.Lines.{lacks}
use Rattle.text_frame_lines.specs.declared.frames.FrameLine.{FrameLine}

-- ---- bytes that a list lacks

and_false : (t : Bool) → (t && false) ≡ false
and_false true = refl
and_false false = refl

lacks-within : (c : ℕ) (x y : List ℕ) → lacks c (x ++ c ∷ y) ≡ false
lacks-within c [] y = rw (eq-eqb c c refl) refl
lacks-within c (b ∷ x) y = rw (lacks-within c x y) (and_false (not (b == c)))

pub lacks-append : (c : ℕ) (x y : List ℕ) → lacks c x ≡ true → lacks c y ≡ true → lacks c (x ++ y) ≡ true
lacks-append c [] y h k = k
lacks-append c (b ∷ x) y h k =
    let parts = and_parts (not (b == c)) (lacks c x) h in
    and_from (not (b == c)) (lacks c (x ++ y)) parts.0 (lacks-append c x y parts.1 k)

pub lacks_one : (b c : ℕ) (same : Bool) → (b == c) ≡ same → same ≡ false → lacks c (b ∷ []) ≡ true
lacks_one b c true e h = absurd (false≢true (sym h))
lacks_one b c false e h = rw e refl

-- ---- a list is parted in one way at the last or the first of a byte

pub part_last : (c : ℕ) (x y d e : List ℕ) → lacks c d ≡ true → lacks c e ≡ true → x ++ c ∷ d ≡ y ++ c ∷ e → (x ≡ y) × (d ≡ e)
part_last c [] [] d e h k p = (refl, cc)
part_last c [] (b ∷ y) d e h k p =
    let tails : d ≡ y ++ c ∷ e = cc in
    absurd (false≢true (sym (lacks-within c y e) ∙ ap (lacks c) (sym tails) ∙ h))
part_last c (a ∷ x) [] d e h k p =
    let tails : x ++ c ∷ d ≡ e = cc in
    absurd (false≢true (sym (lacks-within c x d) ∙ ap (lacks c) tails ∙ k))
part_last c (a ∷ x) (b ∷ y) d e h k p =
    let heads : a ≡ b = cc in
    let tails : x ++ c ∷ d ≡ y ++ c ∷ e = cc in
    let parts = part_last c x y d e h k tails in
    let fronts : x ≡ y = parts.0 in
    (cc, parts.1)

lacks_not : (c : ℕ) (y : List ℕ) → lacks c (c ∷ y) ≡ false
lacks_not c y = rw (eq-eqb c c refl) refl

pub part_first : (c : ℕ) (x y d e : List ℕ) → lacks c x ≡ true → lacks c y ≡ true → x ++ c ∷ d ≡ y ++ c ∷ e → (x ≡ y) × (d ≡ e)
part_first c [] [] d e h k p = (refl, cc)
part_first c [] (b ∷ y) d e h k p =
    let heads : c ≡ b = cc in
    absurd (false≢true (sym (lacks_not c y) ∙ ap (λ (a : ℕ). lacks c (a ∷ y)) heads ∙ k))
part_first c (a ∷ x) [] d e h k p =
    let heads : c ≡ a = cc in
    absurd (false≢true (sym (lacks_not c x) ∙ ap (λ (b : ℕ). lacks c (b ∷ x)) heads ∙ h))
part_first c (a ∷ x) (b ∷ y) d e h k p =
    let heads : a ≡ b = cc in
    let tails : x ++ c ∷ d ≡ y ++ c ∷ e = cc in
    let parts = part_first c x y d e (and_parts (not (a == c)) (lacks c x) h).1 (and_parts (not (b == c)) (lacks c y) k).1 tails in
    let fronts : x ≡ y = parts.0 in
    (cc, parts.1)

-- ---- what numbers and names lack

differs_above : (d c : ℕ) → c < d → not (d == c) ≡ true
differs_above d c h = grind (arith, nat_tests)

lacks_digits : (c : ℕ) (ds : List ℕ) → c < 48 → AllDigits 10 ds → lacks c ds ≡ true
lacks_digits c [] low h = refl
lacks_digits c (d ∷ ds) low h =
    let range = digit_from_value d h.0 in
    and_from (not (d == c)) (lacks c ds) (differs_above d c (omega (arith, range))) (lacks_digits c ds low h.1)

pub lacks_decimal : (c n : ℕ) → c < 48 → n < 2 ^ 64 → lacks c (decimal n) ≡ true
lacks_decimal c n low h = lacks_digits c (decimal n) low (decimal_is_IsNumeral n h).0.1

plain_differs : (b : ℕ) (same : Bool) → (b == 10) ≡ same → is_plain b ≡ true → not same ≡ true
plain_differs b true e h = absurd (false≢true (sym (ap is_plain (eqb-true b 10 e)) ∙ h))
plain_differs b false e h = refl

lacks_plain : (bs : List ℕ) → list_all is_plain bs ≡ true → lacks 10 bs ≡ true
lacks_plain [] h = refl
lacks_plain (b ∷ bs) h =
    let parts = and_parts (is_plain b) (list_all is_plain bs) h in
    and_from (not (b == 10)) (lacks 10 bs) (plain_differs b (b == 10) refl parts.0) (lacks_plain bs parts.1)

bare_is_plain : (bs : List ℕ) → is_bare bs ≡ true → list_all is_plain bs ≡ true
bare_is_plain [] h = refl
bare_is_plain (b ∷ bs) h =
    let parts = and_parts (is_start b) (list_all is_plain bs) h in
    and_from (is_plain b) (list_all is_plain bs) (or_left (is_start b) (is_digit b) parts.0) parts.1

hex_differs : (d : ℕ) → not (hex_digit d == 10) ≡ true
hex_differs d = grind (arith, nat_tests)

kept_differs : (b : ℕ) → nat_lt b 32 ≡ false → not (b == 10) ≡ true
kept_differs b h = grind (arith, nat_tests)

lacks_escaped : (b : ℕ) (s t : Bool) → (b == 92) ≡ s → (b == 34 || nat_lt b 32 || nat_lt 126 b) ≡ t → lacks 10 (escaped b) ≡ true
lacks_escaped b true t e f = rw e refl
lacks_escaped b false true e f =
    rw (e, f) (and_from (not (hex_digit (b / 16) == 10)) _ (hex_differs (b / 16)) (and_from (not (hex_digit (b % 16) == 10)) true (hex_differs (b % 16)) refl))
lacks_escaped b false false e f =
    rw (e, f) (and_from (not (b == 10)) true (kept_differs b (or_parts (b == 34) (nat_lt b 32) (or_parts (b == 34 || nat_lt b 32) (nat_lt 126 b) f).0).1) refl)

lacks_inside : (bs : List ℕ) → lacks 10 (inside bs) ≡ true
lacks_inside [] = refl
lacks_inside (b ∷ bs) = lacks-append 10 (escaped b) (inside bs) (lacks_escaped b (b == 92) _ refl refl) (lacks_inside bs)

lacks_text : (bs : List ℕ) (bare : Bool) → is_bare bs ≡ bare → lacks 10 (text_spelling bs) ≡ true
lacks_text bs true e = rw e (lacks_plain bs (bare_is_plain bs e))
lacks_text bs false e = rw e (lacks-append 10 (inside bs) (34 ∷ []) (lacks_inside bs) refl)

lacks_spelling : (n : Name) → IsName n → lacks 10 (spelling n) ≡ true
lacks_spelling (Name.Number m) h = lacks_decimal 10 m (omega arith) (omega arith)
lacks_spelling (Name.Text bs) h = lacks_text bs (is_bare bs) refl

lacks_number : (c : ℕ) (word : List ℕ) (n : ℕ) → c < 32 → lacks c word ≡ true → n < 2 ^ 64 → lacks c (number_text word n) ≡ true
lacks_number c word n low h k =
    and_from (not (32 == c)) (lacks c ((word ++ 32 ∷ []) ++ decimal n)) (differs_above 32 c low)
    (lacks-append c (word ++ 32 ∷ []) (decimal n)
    (lacks-append c word (32 ∷ []) h (and_from (not (32 == c)) true (differs_above 32 c low) refl))
    (lacks_decimal c n (omega arith) k))

-- ---- what stands before the numbers of a frame line

abbrev pub before_size : FrameLine → List ℕ
before_size f = codes "; frame @" ++ spelling f.name

abbrev pub before_align : FrameLine → List ℕ
before_align f = before_size f ++ number_text (codes "size") f.size

abbrev pub before_index : FrameLine → List ℕ
before_index f = before_align f ++ number_text (codes "align") f.align

-- a frame line is one line
pub lacks_line : (f : FrameLine) → IsFrame f → lacks 10 (frame_line f) ≡ true
lacks_line f h =
    lacks-append 10 (before_index f) (number_text (codes "index") f.index)
    (lacks-append 10 (before_align f) (number_text (codes "align") f.align)
    (lacks-append 10 (before_size f) (number_text (codes "size") f.size)
    (lacks-append 10 (codes "; frame @") (spelling f.name) refl (lacks_spelling f.name h.0))
    (lacks_number 10 (codes "size") f.size (omega arith) refl h.1))
    (lacks_number 10 (codes "align") f.align (omega arith) refl h.2))
    (lacks_number 10 (codes "index") f.index (omega arith) refl h.3)

-- a number behind a word stands behind the last space
pub number_front : (front word : List ℕ) (n : ℕ) → front ++ number_text word n ≡ (front ++ 32 ∷ word) ++ 32 ∷ decimal n
number_front front word n =
    ap (λ (l : List ℕ). front ++ 32 ∷ l) (append_assoc word (32 ∷ []) (decimal n))
    ∙ sym (append_assoc front (32 ∷ word) (32 ∷ decimal n))

-- ---- the next of the leading frame comments

pub record Next (frames : List FrameLine) (text : List ℕ) : Type 0 where
  pub frame : FrameLine
  pub others : List FrameLine
  pub tail : List ℕ
  pub frames_are : frames ≡ frame ∷ others
  pub frame_is : IsFrame frame
  pub text_is : text ≡ frame_line frame ++ 10 ∷ tail
  pub leads : Lead others tail

pub next_of : (frames : List FrameLine) (text : List ℕ) → Lead frames text → begins_comment text ≡ true → Next frames text
next_of [] text h b = absurd (false≢true (sym (ap begins_comment h.1.1 ∙ h.1.2) ∙ b))
next_of (f ∷ fs) text h b =
    let rest = h.1.0 in
    record {
      frame = f;
      others = fs;
      tail = frames_text fs ++ rest;
      frames_are = refl;
      frame_is = h.0.0;
      text_is = h.1.1 ∙ append_assoc (frame_line f ++ 10 ∷ []) (frames_text fs) rest ∙ append_assoc (frame_line f) (10 ∷ []) (frames_text fs ++ rest);
      leads = (h.0.1, (rest, refl, h.1.2));
    }

pub none_left : (frames : List FrameLine) (text : List ℕ) → Lead frames text → begins_comment text ≡ false → frames ≡ []
none_left [] text h b = refl
none_left (f ∷ fs) text h b = absurd (false≢true (sym b ∙ ap begins_comment h.1.1))

-- ---- the frames read so far

pub frames_text-push : (fs : List FrameLine) (f : FrameLine) → frames_text (fs ++ f ∷ []) ≡ frames_text fs ++ (frame_line f ++ 10 ∷ [])
frames_text-push [] f = append-nil (frame_line f ++ 10 ∷ [])
frames_text-push (g ∷ fs) f =
    ap (λ (l : List ℕ). (frame_line g ++ 10 ∷ []) ++ l) (frames_text-push fs f)
    ∙ sym (append_assoc (frame_line g ++ 10 ∷ []) (frames_text fs) (frame_line f ++ 10 ∷ []))

pub AreFrames-push : (fs : List FrameLine) (f : FrameLine) → AreFrames fs → IsFrame f → AreFrames (fs ++ f ∷ [])
AreFrames-push [] f h k = (k, tt)
AreFrames-push (g ∷ fs) f h k = (h.0, AreFrames-push fs f h.1 k)

differs : (b c : ℕ) → (b ≡ c → ⊥) → not (b == c) ≡ true
differs b c h = grind (arith, nat_tests)

-- ---- the loops that look for a byte

-- a space at the end of what lies before bytes without one is the last
pub last_space : (text before front back rest : List ℕ) (last : ℕ) → text ≡ before ++ back → lacks 32 back ≡ true → before ≡ front ++ last ∷ [] → last ≡ 32 → rest ≡ drop (length before) text
    → (x y : List ℕ) → lacks 32 y ≡ true → text ≡ x ++ 32 ∷ y → (front ≡ x) × (rest ≡ y)
last_space text before front back rest last e h k l r x y m n =
    let whole : front ++ 32 ∷ back ≡ x ++ 32 ∷ y =
    sym (e ∙ ap (λ (b : List ℕ). b ++ back) (k ∙ ap (λ (c : ℕ). front ++ c ∷ []) l) ∙ append_assoc front (32 ∷ []) back) ∙ n in
    let parts = part_last 32 front x back y h m whole in
    (parts.0, r ∙ ap (drop (length before)) e ∙ drop-append_seam before back ∙ parts.1)

pub no_space : (text before back : List ℕ) → text ≡ before ++ back → lacks 32 back ≡ true → length before ≡ 0 → (x y : List ℕ) → text ≡ x ++ 32 ∷ y → ⊥
no_space text [] back e h l x y n = absurd (false≢true (sym (lacks-within 32 x y) ∙ ap (lacks 32) (sym n ∙ e) ∙ h))
no_space text (b ∷ before) back e h l x y n = absurd (omega arith)

pub one_more_lacks : (c b : ℕ) (xs : List ℕ) → lacks c xs ≡ true → (b ≡ c → ⊥) → lacks c (xs ++ b ∷ []) ≡ true
one_more_lacks c b xs h k = lacks-append c xs (b ∷ []) h (and_from (not (b == c)) true (differs b c k) refl)

front_of : (text line rest : List ℕ) → text ≡ line ++ rest → take (length text - length rest) text ≡ line
front_of text line rest e =
    let count : length text - length rest ≡ length line = omega (arith, length-append line rest, ap length e) in
    ap (λ (n : ℕ). take n text) count ∙ ap (take (length line)) e ∙ take-append_seam line rest

pub first_parts : (text line rest behind front : List ℕ) (first : ℕ) → text ≡ line ++ rest → rest ≡ first ∷ behind → first ≡ 10 → front ≡ take (length text - length rest) text
    → (front ≡ line) × (text ≡ front ++ 10 ∷ behind)
first_parts text line rest behind front first e k l r =
    let same = r ∙ front_of text line rest e in
    (same, e ∙ ap (λ (b : List ℕ). line ++ b) (k ∙ ap (λ (c : ℕ). c ∷ behind) l) ∙ ap (λ (b : List ℕ). b ++ 10 ∷ behind) (sym same))

pub first_feed : (text line rest behind front : List ℕ) (first : ℕ) → text ≡ line ++ rest → lacks 10 line ≡ true → rest ≡ first ∷ behind → first ≡ 10 → front ≡ take (length text - length rest) text
    → (x y : List ℕ) → lacks 10 x ≡ true → text ≡ x ++ 10 ∷ y → (front ≡ x) × (behind ≡ y)
first_feed text line rest behind front first e h k l r x y m n =
    let parts = first_parts text line rest behind front first e k l r in
    let lacking : lacks 10 front ≡ true = ap (lacks 10) parts.0 ∙ h in
    part_first 10 front x behind y lacking m (sym parts.1 ∙ n)

pub no_feed : (text line rest : List ℕ) → text ≡ line ++ rest → lacks 10 line ≡ true → length rest ≡ 0 → (x y : List ℕ) → text ≡ x ++ 10 ∷ y → ⊥
no_feed text line [] e h l x y n = absurd (false≢true (sym (lacks-within 10 x y) ∙ ap (lacks 10) (sym n ∙ e ∙ append-nil line) ∙ h))
no_feed text line (b ∷ rest) e h l x y n = absurd (omega arith)

-- ---- what the parts of a line make

abbrev is_none : {A : Type 0} → Option A → Bool
is_none None = true
is_none (Some x) = false

pub none_is_some : {A : Type 0} (x : A) → None ≡ Some x → ⊥
none_is_some x e = false≢true (sym (ap is_none e))

pub same_name : (m n : Name) → Some m ≡ Some n → m ≡ n
same_name m n e = cc

pub same_found : (f g : FrameLine) → Some f ≡ Some g → f ≡ g
same_found f g e = cc

-- what stands behind the first bytes of a frame line
pub same_behind : (x y : List ℕ) → codes "; frame @" ++ x ≡ codes "; frame @" ++ y → x ≡ y
same_behind x y e = ap (drop 9) e

pub same_frame : (f : FrameLine) (n : Name) (s a i : ℕ) → n ≡ f.name → s ≡ f.size → a ≡ f.align → i ≡ f.index
    → Some (record { name = n; size = s; align = a; index = i }) ≡ Some f
same_frame f n s a i p q r t = rw (p, q, r, t) refl

-- ---- the loop that reads frame comments

pub record Kept (text : List ℕ) (frames : List FrameLine) (rest : List ℕ) : Type 0 where
  pub frames_are : AreFrames frames
  pub read : text ≡ frames_text frames ++ rest
  pub found : (m : List FrameLine) → Lead m text → (more : List FrameLine) × (m ≡ frames ++ more) × Lead more rest

-- one more frame is read
pub kept : (text rest line behind : List ℕ) (frames : List FrameLine) (frame : FrameLine) → Kept text frames rest → begins_comment rest ≡ true → rest ≡ line ++ 10 ∷ behind
    → IsFrame frame → line ≡ frame_line frame
    → ((x y : List ℕ) → lacks 10 x ≡ true → rest ≡ x ++ 10 ∷ y → (line ≡ x) × (behind ≡ y))
    → ((f : FrameLine) → IsFrame f → line ≡ frame_line f → frame ≡ f)
    → Kept text (frames ++ frame ∷ []) behind
kept text rest line behind frames frame k begins rest_is frame_is line_is parted told = record {
  frames_are = AreFrames-push frames frame k.frames_are frame_is;
  read =
      k.read
      ∙ ap (λ (l : List ℕ). frames_text frames ++ l)
      (rest_is ∙ ap (λ (l : List ℕ). l ++ 10 ∷ behind) line_is ∙ sym (append_assoc (frame_line frame) (10 ∷ []) behind))
      ∙ sym (append_assoc (frames_text frames) (frame_line frame ++ 10 ∷ []) behind)
      ∙ ap (λ (l : List ℕ). l ++ behind) (sym (frames_text-push frames frame));
  found = λ m h.
      let left = k.found m h in
      let next = next_of left.0 rest left.2 begins in
      let parts = parted (frame_line next.frame) next.tail (lacks_line next.frame next.frame_is) next.text_is in
      let same = told next.frame next.frame_is parts.0 in
      let P : List ℕ → Type 0 = λ (t : List ℕ). Lead next.others t in (
        next.others,
        left.1 ∙ ap (λ (l : List FrameLine). frames ++ l) (next.frames_are ∙ ap (λ (g : FrameLine). g ∷ next.others) (sym same)) ∙ sym (append_assoc frames (frame ∷ []) next.others),
        subst P (sym parts.1) next.leads,
      );
}

pub kept_by : (text rest : List ℕ) (frames new : List FrameLine) → new ≡ frames → Kept text frames rest → Kept text new rest
kept_by text rest frames new e k = let P : List FrameLine → Type 0 = λ (l : List FrameLine). Kept text l rest in subst P (sym e) k
