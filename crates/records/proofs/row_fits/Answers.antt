-- `records::row_fits` meets its contract: each return is a case of `row_fits`: unused bytes are not zeros (`row_used`
-- of CodeLaws), an element has a value (`row_valued`) or none (`row_bare`), the row is neither an attribute nor a text
-- with index 0 (`row_neither`), its bytes are no value (`row_no_value`) or are one (`row_value`).
use mathlib.Core.Path.{◌∙◌, sym, ap₂, refl}
use mathlib.Core.Bool.{Bool, ◌&&◌, ◌||◌}
use lib.Dec.{eqb}
use borrow.Author.Tests.{eqb-true, eqb-false}
use Rattle.rules.specs.declared.RowSort.TheVariants.{Element, Attribute, Text}
use Rattle.rules.proofs.RowSortLaws.{sort_read}
use Rattle.records.proofs.CodeLaws.{row_used, row_valued, row_bare, row_neither, row_no_value, row_value}
use Rattle.records.proofs.row_fits.Goals as goal

pub returns-then-not-unused_fit : goal.returns-then-not-unused_fit
returns-then-not-unused_fit c =
    let a = c.args in
    row_used a.w a.rec.now c.unused_fit.ensures c.if-not-unused_fit.true

pub returns-then-used-ne0 : goal.returns-then-used-ne0
returns-then-used-ne0 c =
    let a = c.args in
    let is = eqb-true _ 1 (sym (sort_read _ Element c.row_sort_of-sort.ensures c.eq-element.ensures) ∙ c.if-element.true) in
    row_valued a.w a.rec.now c.unused_fit.ensures _ _ refl c.row_length-used.ensures is c.if-used-ne0.true

pub returns-then-element : goal.returns-then-element
returns-then-element c =
    let a = c.args in
    let is = eqb-true _ 1 (sym (sort_read _ Element c.row_sort_of-sort.ensures c.eq-element.ensures) ∙ c.if-element.true) in
    row_bare a.w a.rec.now c.unused_fit.ensures _ _ refl c.row_length-used.ensures c.if-not-unused_fit.false
    is c.if-used-ne0.false c.filled.ensures

pub returns-then-not-attribute-text : goal.returns-then-not-attribute-text
returns-then-not-attribute-text c =
    let a = c.args in
    let sorted = c.row_sort_of-sort.ensures in
    let other = eqb-false _ 1 (sym (sort_read _ Element sorted c.eq-element.ensures) ∙ c.if-element.false) in
    let bears = ap₂ (λ (x y : Bool). x || (y && eqb c.row_index-index.result 0)) (sym (sort_read _ Attribute sorted c.eq-attribute.ensures)) (sym (sort_read _ Text sorted c.eq-text.ensures)) in
    row_neither a.w a.rec.now c.unused_fit.ensures _ _ refl c.row_length-used.ensures
    _ c.row_index-index.ensures other (bears ∙ c.if-not-attribute-text.true)

pub returns-then-not-is_value : goal.returns-then-not-is_value
returns-then-not-is_value c =
    let a = c.args in
    let sorted = c.row_sort_of-sort.ensures in
    let other = eqb-false _ 1 (sym (sort_read _ Element sorted c.eq-element.ensures) ∙ c.if-element.false) in
    let bears = ap₂ (λ (x y : Bool). x || (y && eqb c.row_index-index.result 0)) (sym (sort_read _ Attribute sorted c.eq-attribute.ensures)) (sym (sort_read _ Text sorted c.eq-text.ensures)) in
    row_no_value a.w a.rec.now c.unused_fit.ensures _ _ refl c.row_length-used.ensures
    _ c.row_index-index.ensures other c.if-not-unused_fit.false (bears ∙ c.if-not-attribute-text.false)
    _ _ c.after.ensures c.first.ensures c.is_value.ensures c.if-not-is_value.true

pub returns : goal.returns
returns c =
    let a = c.args in
    let sorted = c.row_sort_of-sort.ensures in
    let other = eqb-false _ 1 (sym (sort_read _ Element sorted c.eq-element.ensures) ∙ c.if-element.false) in
    let bears = ap₂ (λ (x y : Bool). x || (y && eqb c.row_index-index.result 0)) (sym (sort_read _ Attribute sorted c.eq-attribute.ensures)) (sym (sort_read _ Text sorted c.eq-text.ensures)) in
    row_value a.w a.rec.now c.unused_fit.ensures _ _ refl c.row_length-used.ensures
    _ c.row_index-index.ensures other c.if-not-unused_fit.false (bears ∙ c.if-not-attribute-text.false)
    _ _ c.after.ensures c.first.ensures c.is_value.ensures c.if-not-is_value.false c.filled-2.ensures
