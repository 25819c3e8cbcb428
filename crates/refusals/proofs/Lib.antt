-- Laws of the definitions, which every operation's proof cites. `Rows` has the law of every order; `InSteps` how the code answers one;
-- `Decided` that a question's case holds exactly if it is asked; `Nowhere` what a row that holds nowhere says of the values;
-- `PlaceBounds` that no place is answered past the most; `OneResult` that two results of one promise are equal. `Answers` and `Places`
-- are on tests in their order and on the lowest place; `NumberLists` has the steps of a comparison and of a sum in a loop.
pub mod Answers
pub mod Decided
pub mod InSteps
pub mod Nowhere
pub mod NumberLists
pub mod OneResult
pub mod PlaceBounds
pub mod Places
pub mod Rows
