-- Frame lines, and the frame comments that lead a text.
use Rattle.std.specs.Prelude.{◌≡◌, ℕ, ◌<◌, ◌^◌, Bool, false, nat_eq, List, [], ◌∷◌, ◌++◌, codes, decimal}
use Rattle.std.specs.List.{starts_with}
use Rattle.text_names.specs.Spelling.{IsName, spelling}
use Rattle.text_frame_lines.specs.declared.frames.FrameLine.{FrameLine}

-- a word and a number, a space before each
abbrev pub number_text : List ℕ → ℕ → List ℕ
number_text word n = codes " " ++ word ++ codes " " ++ decimal n

-- a frame line without its line feed
abbrev pub frame_line : FrameLine → List ℕ
frame_line f =
    codes "; frame @" ++ spelling f.name ++ number_text (codes "size") f.size ++ number_text (codes "align") f.align ++ number_text (codes "index") f.index

abbrev pub frames_text : List FrameLine → List ℕ
frames_text [] = []
frames_text (f ∷ fs) = frame_line f ++ codes "\n" ++ frames_text fs

-- a name that is one, and numbers below 2 ^ 64
abbrev pub IsFrame : FrameLine → Type 0
IsFrame f = IsName f.name × (f.size < 2 ^ 64) × (f.align < 2 ^ 64) × (f.index < 2 ^ 64)

abbrev pub AreFrames : List FrameLine → Type 0
AreFrames [] = Unit {0}
AreFrames (f ∷ fs) = IsFrame f × AreFrames fs

-- whether a text begins with a frame comment
abbrev pub begins_comment : List ℕ → Bool
begins_comment text = starts_with nat_eq text (codes "; frame ")

-- all frame comments before a text's first other line are of the form, and these are what they say
abbrev pub Lead : List FrameLine → List ℕ → Type 0
Lead frames text = AreFrames frames × ((rest : List ℕ) × (text ≡ frames_text frames ++ rest) × (begins_comment rest ≡ false))
