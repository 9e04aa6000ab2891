-- Settings: NAME=VALUE.
use Rattle.std.specs.Prelude.{◌≡◌, ⊤, ◌==◌, ◌&&◌, ◌+◌, ◌^◌, ℕ, ℤ, pos, neg_ℤ, Bool, suc, false, List, [], ◌∷◌, map, length, nat_lt, Option, Some, None, option_map, is_some, if◌then◌else◌}
use Rattle.std.specs.List.{before_first, after_first, filter_map, list_all}
use Rattle.std.specs.Char.{is_ascii_alphabetic, is_ascii_alphanumeric, to_ascii_uppercase}
use Rattle.std.specs.Str.{all_ascii_digits}
use Rattle.std.specs.Str.Parse.{digits_value}
use Rattle.clap.specs.Words.{Text}
use Rattle.command_words.specs.declared.settings.SettingFault.{SettingFault}
use Rattle.command_words.specs.declared.settings.SettingFault.TheVariants as fault

-- a letter and letters or digits
abbrev pub is_name : Text → Bool
is_name [] = false
is_name (c ∷ cs) = is_ascii_alphabetic c && list_all is_ascii_alphanumeric cs

-- the number that digits write, of which there is one or more, where it is below this one
abbrev pub number_below : ℕ → List ℕ → Option ℕ
number_below most ds = if all_ascii_digits ds
    && (nat_lt 0 (length ds) && nat_lt (digits_value 10 ds) most) then Some (digits_value 10 ds)
    else None

-- an optional minus sign and digits, of a value within 64 bits
abbrev pub value_of : Text → Option ℤ
value_of [] = None
value_of (c ∷ ds) = if c == 45
    then option_map (λ n. neg_ℤ (pos n)) (number_below (2 ^ 63 + 1) ds)
    else option_map pos (number_below (2 ^ 63) (c ∷ ds))

abbrev pub is_equals : ℕ → Bool
is_equals c = c == 61

-- a name, its letters as capitals, with its value, behind the first `=`
abbrev pub setting_at : Text → Option (Text × ℤ)
setting_at t = if is_name (before_first is_equals t)
    then option_map (λ z. (map to_ascii_uppercase (before_first is_equals t), z))
    (value_of (after_first is_equals t))
    else None

-- the first word, by its number from this one on, that is no setting
abbrev pub first_fault_from : ℕ → List Text → Option ℕ
first_fault_from n [] = None
first_fault_from n (t ∷ ts) = if is_some (setting_at t) then first_fault_from (suc n) ts else Some n

-- the settings of words, without those that are none
abbrev pub settings_in : List Text → List (Text × ℤ)
settings_in words = filter_map setting_at words

-- A word is named exactly where it is the first that is no setting.
abbrev pub IsSettingFault : List Text → SettingFault → Type 0
IsSettingFault words (fault.Word n) = first_fault_from 1 words ≡ Some n
IsSettingFault words fault.NoMemory = ⊤
