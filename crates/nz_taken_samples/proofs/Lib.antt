mod TakenTerms
