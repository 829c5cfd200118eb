use mathlib.Core.Path.{refl, sym}
use Rattle.text.specs.Bytes.{bytes}
use Rattle.explaining.specs.Words.{refusal_words, words_of}
use Rattle.explaining.proofs.PutLaws.{unworded}
use native.Mathlib.Omega.{arith}
use Rattle.explaining.proofs.words_of.Goals as goal

pub returns-in-1 : goal.returns-in-1
unfolding words_of refusal_words bytes
returns-in-1 c = rw c.in-1.is refl

pub returns-in-2 : goal.returns-in-2
unfolding words_of refusal_words bytes
returns-in-2 c = rw c.in-2.is refl

pub returns-in-3 : goal.returns-in-3
unfolding words_of refusal_words bytes
returns-in-3 c = rw c.in-3.is refl

pub returns-in-4 : goal.returns-in-4
unfolding words_of refusal_words bytes
returns-in-4 c = rw c.in-4.is refl

pub returns-in-5 : goal.returns-in-5
unfolding words_of refusal_words bytes
returns-in-5 c = rw c.in-5.is refl

pub returns-in-6 : goal.returns-in-6
unfolding words_of refusal_words bytes
returns-in-6 c = rw c.in-6.is refl

pub returns-in-7 : goal.returns-in-7
unfolding words_of refusal_words bytes
returns-in-7 c = rw c.in-7.is refl

pub returns-in-8 : goal.returns-in-8
unfolding words_of refusal_words bytes
returns-in-8 c = rw c.in-8.is refl

pub returns-in-9 : goal.returns-in-9
unfolding words_of refusal_words bytes
returns-in-9 c = rw c.in-9.is refl

pub returns-in-10 : goal.returns-in-10
unfolding words_of refusal_words bytes
returns-in-10 c = rw c.in-10.is refl

pub returns-in-11 : goal.returns-in-11
unfolding words_of refusal_words bytes
returns-in-11 c = rw c.in-11.is refl

pub returns-in-12 : goal.returns-in-12
unfolding words_of refusal_words bytes
returns-in-12 c = rw c.in-12.is refl

pub returns-in-13 : goal.returns-in-13
unfolding words_of refusal_words bytes
returns-in-13 c = rw c.in-13.is refl

pub returns-in-14 : goal.returns-in-14
unfolding words_of refusal_words bytes
returns-in-14 c = rw c.in-14.is refl

pub returns-in-15 : goal.returns-in-15
unfolding words_of refusal_words bytes
returns-in-15 c = rw c.in-15.is refl

pub returns-in-16 : goal.returns-in-16
unfolding words_of refusal_words bytes
returns-in-16 c = rw c.in-16.is refl

pub returns-in-17 : goal.returns-in-17
unfolding words_of refusal_words bytes
returns-in-17 c = rw c.in-17.is refl

pub returns-in-18 : goal.returns-in-18
unfolding words_of refusal_words bytes
returns-in-18 c = rw c.in-18.is refl

pub returns-in-19 : goal.returns-in-19
unfolding words_of refusal_words bytes
returns-in-19 c = rw c.in-19.is refl

pub returns-in-20 : goal.returns-in-20
unfolding words_of refusal_words bytes
returns-in-20 c = rw c.in-20.is refl

pub returns-in_default : goal.returns-in_default
returns-in_default c = sym (unworded c.args.number (λ a b. omega arith))
