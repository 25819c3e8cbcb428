-- What the steps of the second pass give, from the sums of both sine conditions and the reduced coefficients a and b.
use Rattle.std.specs.Prelude.{ℕ, ◌/◌, ◌%◌, ◌^◌, ◌≤◌, cond, List, [], ◌∷◌, eqb, ℤ, pos, neg_ℤ, nat_abs, ◌*ℤ◌, length}
use Rattle.whole.specs.{Lists.listed, Quotient.rounded_quotient, Sums.vector}
use Rattle.wide.specs.Wide.{value_of}
use Rattle.wide_words.specs.Words.{high_word, low_word}
use Rattle.pass_pair.specs.{declared.Pair.Pair, declared.PairFactors.PairFactors, declared.PairCorrection.PairCorrection}
use Rattle.pass_pair.specs.Pair.{determinant, pair_numerator, held_numerator, correction_from, clamped}
use Rattle.figures.specs.{declared.Figure.Figure, Figure.denominator, Figure.angle_count, Figure.condition_count, Numerators.condition_sum}
use Rattle.pass_rules.specs.{Promises.SecondLent, Promises.second_lent}
use Rattle.pass_rules.specs.declared.second.SineAnswer.{SineAnswer}
use Rattle.pass_rules.specs.SecondPass.{side_reduced_count}
use Rattle.pass_steps.specs.{Premises.most_misclosure, Steps.results_from}

-- the sums keep the bounds by which no numerator passes two words
pub record SmallPair (p : Pair) : Type 0 where
  pub aa_small : nat_abs p.aa ≤ 2 ^ 60
  pub ab_small : nat_abs p.ab ≤ 2 ^ 60
  pub bb_small : nat_abs p.bb ≤ 2 ^ 60
  pub wa_small : nat_abs p.wa ≤ most_misclosure
  pub wb_small : nat_abs p.wb ≤ most_misclosure

-- −100·D
abbrev pub factor_of : (denominator : ℕ) → ℤ
factor_of denominator = neg_ℤ (pos 100) *ℤ pos denominator

-- the numerator of an angle, by whether there are known sides
abbrev pub exact_from : (denominator sides : ℕ) → Pair → (a b : List ℤ) → ℕ → ℤ
exact_from denominator sides p a b i =
    cond (eqb sides 0) (factor_of denominator *ℤ vector a i *ℤ p.wa)
    (pair_numerator (factor_of denominator) p.aa p.ab p.bb p.wa p.wb (vector a i) (vector b i))

abbrev pub divisor_from : (sides : ℕ) → Pair → ℤ
divisor_from sides p = cond (eqb sides 0) p.aa (determinant p.aa p.ab p.bb)

-- an angle's correction: both words of its numerator, and tenths
abbrev pub exact_correction : (numerator : ℤ) → (divisor : ℕ) → PairCorrection
exact_correction numerator divisor = record { high = high_word numerator; low = low_word numerator; tenths = clamped (rounded_quotient numerator divisor) }

-- as it is worked in two words
abbrev pub pair_correction : (factor : ℤ) → PairFactors → (a b : List ℤ) → ℕ → PairCorrection
pair_correction factor factors a b i =
    correction_from (held_numerator factor (value_of factors.first) (value_of factors.second) (vector a i) (vector b i))
    (nat_abs (value_of factors.determinant))

abbrev pub highs_from : (denominator sides : ℕ) → Pair → (a b : List ℤ) → List ℤ
highs_from denominator sides p a b = listed (length a) (λ i. high_word (exact_from denominator sides p a b i))

abbrev pub lows_from : (denominator sides : ℕ) → Pair → (a b : List ℤ) → List ℕ
lows_from denominator sides p a b = listed (length a) (λ i. low_word (exact_from denominator sides p a b i))

abbrev pub tenths_from : (denominator sides : ℕ) → Pair → (a b : List ℤ) → List ℤ
tenths_from denominator sides p a b =
    listed (length a) (λ i. clamped (rounded_quotient (exact_from denominator sides p a b i) (nat_abs (divisor_from sides p))))

-- what the work stores: everything that is lent but the rounds, which no correction touches
pub record SecondWork : Type 0 where
  pub reduced : List ℤ
  pub side_reduced : List ℤ
  pub high_numerators : List ℤ
  pub low_numerators : List ℕ
  pub rounded : List ℤ
  pub adjusted : List ℕ
  pub rests : List ℤ

abbrev pub second_work : (reduced side_reduced high_numerators : List ℤ) → (low_numerators : List ℕ) → (rounded : List ℤ) → (adjusted : List ℕ)
    → (rests : List ℤ) → SecondWork
second_work reduced side_reduced high_numerators low_numerators rounded adjusted rests = record {
  reduced = reduced;
  side_reduced = side_reduced;
  high_numerators = high_numerators;
  low_numerators = low_numerators;
  rounded = rounded;
  adjusted = adjusted;
  rests = rests;
}

-- of what is lent
abbrev pub work_of : SecondLent → SecondWork
work_of lent =
    second_work lent.reduced lent.side_reduced lent.high_numerators lent.low_numerators lent.rounded lent.adjusted lent.rests

abbrev pub work_lent : SecondWork → List ℕ
work_lent work =
    length work.reduced ∷ length work.side_reduced ∷ length work.high_numerators ∷ length work.low_numerators
    ∷ length work.rounded ∷ length work.adjusted ∷ length work.rests ∷ []

abbrev pub work_lengths : Figure → List ℕ
work_lengths f =
    angle_count f ∷ side_reduced_count f ∷ angle_count f ∷ angle_count f ∷ angle_count f ∷ angle_count f ∷ condition_count f ∷ []

-- with the rounds beside the adjusted angles
abbrev pub with_rounds : SecondWork → (rounds : List ℕ) → SecondLent
with_rounds work rounds =
    second_lent work.reduced work.side_reduced work.high_numerators work.low_numerators work.rounded work.adjusted rounds
    work.rests

abbrev pub second_from : Figure → (angles : List ℕ) → (sides : ℕ) → Pair → (a b : List ℤ) → SecondWork
second_from f angles sides p a b =
    second_work a b (highs_from (denominator f) sides p a b) (lows_from (denominator f) sides p a b) (tenths_from (denominator f) sides p a b)
    (results_from angles (tenths_from (denominator f) sides p a b))
    (listed (condition_count f) (condition_sum f (vector (tenths_from (denominator f) sides p a b))))

-- what is answered
abbrev pub answer_from : (w sideW : ℤ) → (divisor : ℕ) → SineAnswer
answer_from w sideW divisor = record { misclosure = w; side_misclosure = sideW; divisor_high = divisor / 2 ^ 64; divisor_low = divisor % 2 ^ 64 }
