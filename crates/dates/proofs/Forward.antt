-- Where a match of a date reader ends: never before the place asked, and within the text where that place is. Assumes nothing.
use Rattle.std.specs.Prelude.{Some, None}
use Prim.Native.Nat.{ℕ}
use mathlib.Core.List.{List, [], ◌∷◌, ◌++◌}
use lib.ListN.{length}
use lib.Dec.{leb}
use Rattle.primitive.specs.Answer.{Reader, matched, none}
use Rattle.primitive.specs.Text.{byte}
use Rattle.primitive.specs.Primitive.{multispace1, spaced, dec_uint_str, dec_uint}
use Rattle.primitive.proofs.Forward.{Forward, none_ends, if_ends, if_forward, then_forward, next_forward, or_forward, pure_forward, verify_forward, optional_forward, value_forward, tag_forward, named_forward, multispace1_forward, spaced_forward, dec_uint_str_forward, parse_uint_forward, dec_uint_forward, alpha1_forward}
use Rattle.dates.specs.Year.{widened, year_from_str, year_str}
use Rattle.dates.specs.Date.{date_of, exists, with_year, without_year, WrittenYear, written, unwritten, dated, end_of_text, blank_or_end, ended, ended_year, dated_behind, nothing, hyphen, comma, dotted, iso1, five_digits, iso2, us_date, slash_part, us_rest, us, months, word_dot, literal_month, literal1, literal2, literal3, literal, parse_non_iso}

year_from_str_forward : (w : List ℕ) → Forward (year_from_str w)
unfolding year_from_str
year_from_str_forward w = verify_forward (leb (widened w) 2147485547) (widened w)

pub year_str_forward : Forward year_str
unfolding year_str
year_str_forward = spaced_forward dec_uint_str dec_uint_str_forward

pub with_year_forward : (w : List ℕ) (m d : ℕ) → Forward (with_year w m d)
unfolding with_year
with_year_forward w m d = then_forward (year_from_str w) _ (year_from_str_forward w) (λ y. verify_forward (exists y m d) (date_of (Some y) m d))

without_year_forward : (m d : ℕ) → Forward (without_year m d)
unfolding without_year
without_year_forward m d = verify_forward (exists 2000 m d) (date_of None m d)

dated_forward : (m d : ℕ) (y : WrittenYear) → Forward (dated y m d)
unfolding dated
dated_forward m d (written w) = with_year_forward w m d
dated_forward m d unwritten = without_year_forward m d

-- what reads nothing by a test of the place
end_of_text_forward : Forward end_of_text
unfolding end_of_text
end_of_text_forward text at = if_ends text at (leb (length text) at) (matched tt at) none (pure_forward tt text at) (none_ends text at)

blank_or_end_forward : Forward blank_or_end
unfolding blank_or_end
blank_or_end_forward = or_forward _ _ (value_forward tt multispace1 multispace1_forward) end_of_text_forward

ended_forward : Forward ended
unfolding ended
ended_forward = then_forward _ _ year_str_forward (λ w. next_forward _ _ blank_or_end_forward (pure_forward (written w)))

pub dated_behind_forward : (p : Reader (Unit {0})) → Forward p → (m d : ℕ) → Forward (dated_behind p m d)
unfolding dated_behind ended_year
dated_behind_forward p h m d = then_forward _ _ (optional_forward unwritten _ (next_forward p ended h ended_forward)) (dated_forward m d)

pub hyphen_forward : Forward hyphen
unfolding hyphen
hyphen_forward = optional_forward tt _ (spaced_forward _ (tag_forward _))

pub comma_forward : Forward comma
unfolding comma
comma_forward = optional_forward tt _ (spaced_forward _ (next_forward _ _ (tag_forward _) (value_forward tt multispace1 multispace1_forward)))

pub nothing_forward : Forward nothing
unfolding nothing
nothing_forward = pure_forward tt

-- a number of one byte behind space, and a byte behind space
pub small : Forward (spaced (dec_uint 255))
small = spaced_forward _ (dec_uint_forward 255)

pub mark : (b : ℕ) → Forward (spaced (byte b))
mark b = spaced_forward _ (tag_forward _)

pub dotted_forward : Forward dotted
unfolding dotted
dotted_forward =
    then_forward _ _ small
    (λ d. next_forward _ _ (mark 46) (then_forward _ _ small (λ m. next_forward _ _ (mark 46) (dated_behind_forward nothing nothing_forward m d))))

pub iso1_forward : Forward iso1
unfolding iso1
iso1_forward =
    then_forward _ _ year_str_forward
    (λ w. next_forward _ _ (mark 45) (then_forward _ _ small (λ m. next_forward _ _ (mark 45) (then_forward _ _ small (λ d. with_year_forward w m d)))))

pub five_digits_forward : (w : List ℕ) → Forward (five_digits w)
unfolding five_digits
five_digits_forward w = verify_forward (leb 5 (length w)) tt

pub iso2_forward : Forward iso2
unfolding iso2
iso2_forward =
    then_forward _ _ dec_uint_str_forward
    (λ w. next_forward _ _ (five_digits_forward w)
    (then_forward _ _ (parse_uint_forward 255 _) (λ m. then_forward _ _ (parse_uint_forward 255 _) (λ d. with_year_forward _ m d))))

pub us_date_forward : (w : List ℕ) (n : ℕ) (v : WrittenYear) → Forward (us_date w n v)
unfolding us_date
us_date_forward w n (written v) =
    if_forward (leb 4 (length w)) _ _ (then_forward _ _ (parse_uint_forward 255 v) (λ d. with_year_forward w n d))
    (then_forward _ _ (parse_uint_forward 255 w) (λ m. with_year_forward v m n))
us_date_forward w n unwritten = then_forward _ _ (parse_uint_forward 255 w) (λ m. without_year_forward m n)

pub slash_part_forward : Forward slash_part
unfolding slash_part
slash_part_forward = optional_forward unwritten _ (next_forward _ _ (mark 47) (then_forward _ _ year_str_forward (λ v. pure_forward (written v))))

pub us_forward : Forward us
unfolding us us_rest
us_forward =
    then_forward _ _ year_str_forward
    (λ w. next_forward _ _ (mark 47) (then_forward _ _ small (λ n. then_forward _ _ slash_part_forward (λ v. us_date_forward w n v))))

word_dot_forward : Forward word_dot
unfolding word_dot
word_dot_forward = then_forward _ _ alpha1_forward (λ w. or_forward _ _ (value_forward (w ++ (46 ∷ [])) _ (tag_forward _)) (pure_forward w))

pub literal_month_forward : Forward literal_month
unfolding literal_month
literal_month_forward = then_forward _ _ (spaced_forward _ word_dot_forward) (named_forward months)

month : Forward (spaced literal_month)
month = spaced_forward _ literal_month_forward

pub literal1_forward : Forward literal1
unfolding literal1
literal1_forward =
    then_forward _ _ small (λ d. next_forward _ _ hyphen_forward (then_forward _ _ month (λ m. dated_behind_forward hyphen hyphen_forward m d)))

pub literal2_forward : Forward literal2
unfolding literal2
literal2_forward = then_forward _ _ month (λ m. then_forward _ _ small (λ d. dated_behind_forward comma comma_forward m d))

pub literal3_forward : Forward literal3
unfolding literal3
literal3_forward =
    then_forward _ _ month
    (λ m. next_forward _ _ (mark 45) (then_forward _ _ small (λ d. next_forward _ _ (mark 45) (then_forward _ _ year_str_forward (λ w. with_year_forward w m d)))))

pub parse_non_iso_forward : Forward parse_non_iso
unfolding parse_non_iso literal
parse_non_iso_forward = or_forward _ _ dotted_forward (or_forward _ _ us_forward (or_forward _ _ literal1_forward (or_forward _ _ literal2_forward literal3_forward)))
