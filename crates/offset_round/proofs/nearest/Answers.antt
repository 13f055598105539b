-- `nearest` meets its contract. The half behind the whole part has its value, so that the two tests are those of the fraction.
use Rattle.std.proofs.Common.{arith}
use Rattle.offset_round.proofs.Sizes.{above_minus_one, below_word, part_of, still_small, counts, half_value, goes_down, goes_up, goes_even}
use Rattle.offset_round.proofs.Sizes.{nearest_small}
use Rattle.offset_round.proofs.nearest.Goals as goal

pub truncating_f64_to_u64-whole-requires : goal.truncating_f64_to_u64-whole-requires
truncating_f64_to_u64-whole-requires c =
    record {
      lower_bound = above_minus_one _ c.requires;
      upper_bound = below_word _ c.requires;
    }

pub overflow_mul-half : goal.overflow_mul-half
overflow_mul-half c = let part = part_of _ c.requires _ c.truncating_f64_to_u64-whole.ensures in record { fits = omega (arith, part.1) }

pub overflow_add-half : goal.overflow_add-half
overflow_add-half c = let part = part_of _ c.requires _ c.truncating_f64_to_u64-whole.ensures in record { fits = omega (arith, part.1) }

pub int_to_float-half : goal.int_to_float-half
int_to_float-half c = let part = part_of _ c.requires _ c.truncating_f64_to_u64-whole.ensures in counts _ part.1

pub returns-then-magnitude-half : goal.returns-then-magnitude-half
returns-then-magnitude-half c =
    let part = part_of _ c.requires _ c.truncating_f64_to_u64-whole.ensures in
    let is = goes_down _ c.requires _ part.0 _ (half_value _ part.1) c.if-magnitude-half.true in
    (is, still_small _ _ is (nearest_small _ c.requires))

pub returns-then-half-magnitude : goal.returns-then-half-magnitude
returns-then-half-magnitude c =
    let part = part_of _ c.requires _ c.truncating_f64_to_u64-whole.ensures in
    let is = goes_up _ c.requires _ part.0 _ (half_value _ part.1) c.if-half-magnitude.true in
    (is, still_small _ _ is (nearest_small _ c.requires))

pub returns : goal.returns
returns c =
    let part = part_of _ c.requires _ c.truncating_f64_to_u64-whole.ensures in
    let is = goes_even _ c.requires _ part.0 _ (half_value _ part.1) c.if-magnitude-half.false c.if-half-magnitude.false in
    (is, still_small _ _ is (nearest_small _ c.requires))
