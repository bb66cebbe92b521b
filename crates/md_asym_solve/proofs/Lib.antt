mod SalePrograms
mod SaleEnds
